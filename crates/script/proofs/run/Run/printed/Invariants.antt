use Rattle.std.proofs.Common.{◌+◌, cond, length, is_some}
use Rattle.script.proofs.run.Run.printed.Given as goal

-- what is left of the script, with the line that is handed on
abbrev pub decreases-loop-next : goal.decreases-loop-next
decreases-loop-next l = length l.self.reader.rest.now + cond (is_some l.next) 1 0
