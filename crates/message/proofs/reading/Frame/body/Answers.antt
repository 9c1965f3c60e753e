use Rattle.std.proofs.Common.{rules}
use Rattle.message.proofs.Parses.{no_kind}
use Rattle.message.proofs.reading.Frame.body.Goals as goal

pub returns-in_err-try_from : goal.returns-in_err-try_from
returns-in_err-try_from c = search (rules, no_kind)
