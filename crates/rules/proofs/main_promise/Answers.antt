use Rattle.rules.proofs.Dealt.{main}
use Rattle.rules.proofs.main_promise.Goals as goal

pub returns : goal.returns
returns c = main
