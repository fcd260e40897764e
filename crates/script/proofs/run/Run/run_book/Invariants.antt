use Rattle.std.proofs.Common.{◌≤◌, length}
use Rattle.script.proofs.run.Run.run_book.Given as goal

-- what is left of the script is no longer than it was
abbrev pub invariant-loop-command : goal.invariant-loop-command
invariant-loop-command g l = length l.self.reader.rest.now ≤ length l.initial.self.reader.rest.now

abbrev pub decreases-loop-command : goal.decreases-loop-command
decreases-loop-command g l = length l.self.reader.rest.now
