use Rattle.std.proofs.Common.{◌≤◌, length}
use Rattle.script.proofs.run.Run.run_memory.Given as goal

-- what is left of the script is no longer than it was
abbrev pub invariant-loop-self : goal.invariant-loop-self
invariant-loop-self g l = length l.self.reader.rest.now ≤ length l.initial.self.reader.rest.now

abbrev pub decreases-loop-self : goal.decreases-loop-self
decreases-loop-self g l = length l.self.reader.rest.now
