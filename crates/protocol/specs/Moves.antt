-- The moves of a step, put together from their parts.
use Rattle.std.specs.Prelude.{ℕ}
use Rattle.protocol.specs.declared.numbers.Answer.{Answer}
use Rattle.protocol.specs.declared.table.Stage.{Stage}
use Rattle.protocol.specs.declared.table.Stage.TheVariants.{Answered}
use Rattle.protocol.specs.declared.moves.Access.{Access}
use Rattle.protocol.specs.declared.moves.Access.TheVariants as access
use Rattle.protocol.specs.declared.moves.RunnerNext.{RunnerNext}
use Rattle.protocol.specs.declared.moves.RunnerNext.TheVariants as own
use Rattle.protocol.specs.declared.moves.TableNext.{TableNext}
use Rattle.protocol.specs.declared.moves.TableNext.TheVariants as rest
use Rattle.protocol.specs.declared.moves.Move.{Move}

-- The runner makes an access and goes on by it; the rest of the table stays.
abbrev pub moves : ℕ → Access → RunnerNext → Move
moves r a n = record { runner = r; access = a; own = n; rest = rest.Stay }

-- The runner makes an access and goes to a stage.
abbrev pub goes : ℕ → Access → Stage → Move
goes r a s = moves r a (own.Go s)

-- The runner goes to a stage and makes no access.
abbrev pub turns : ℕ → Stage → Move
turns r s = goes r access.Nothing s

-- The runner is answered, with value 0, and makes no access.
abbrev pub answers : ℕ → Answer → Move
answers r a = turns r (Answered a 0)

-- The runner makes a split's access, and the split goes on by it; the runner stays as it is.
abbrev pub splits : ℕ → Access → TableNext → Move
splits r a n = record { runner = r; access = a; own = own.Stay; rest = n }

-- Nothing happens.
abbrev pub rests : ℕ → Move
rests r = moves r access.Nothing own.Stay
