use Rattle.std.proofs.Common.{◌≡◌, ◌*◌, ◌≤◌, length}
use Rattle.rehearse.proofs.play.Play.new.Given as goal

-- a seat for each keeper before this one
abbrev pub invariant-loop-me : goal.invariant-loop-me
invariant-loop-me l = (length l.seats.items ≡ l.me) × (l.me ≤ 3 * l.company.f)
