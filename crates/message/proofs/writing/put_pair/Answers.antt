use Rattle.std.proofs.Common.{append_assoc, rules}
use Rattle.message.proofs.Rows.{be8_bytes}
use Rattle.message.proofs.writing.put_pair.Goals as goal

pub returns : goal.returns
returns c =
    let across = be8_bytes c.args.pair.across in
    let down = be8_bytes c.args.pair.down in
    search (rules, append_assoc)
