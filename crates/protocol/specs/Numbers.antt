-- The numbers of operations, answers and refusals.
use Rattle.std.specs.Prelude.{ℕ, cond, List, Some, None, Option, ◌==◌, codes}
use Rattle.protocol.specs.declared.numbers.Operation.{Operation}
use Rattle.protocol.specs.declared.numbers.Operation.TheVariants.{Enter, Change, Remove, Look}
use Rattle.protocol.specs.declared.numbers.Answer.{Answer}
use Rattle.protocol.specs.declared.numbers.Answer.TheVariants.{Done, AlreadyThere, NotThere, NoRoom}
use Rattle.protocol.specs.declared.numbers.Refusal.{Refusal}
use Rattle.protocol.specs.declared.numbers.Refusal.TheVariants.{WrongLength, WrongCount, NoHead, BrokenChain, WrongLow, MisplacedKey, NoChangeNumber, Closed, NoSuchRunner, Busy, NoSuchOperation, NotAKey, BeingEntered, NumbersSpent, IdleRunner, AlreadyAnswered, StillOpen}

-- Enter is 1, change 2, remove 3, look 4.
abbrev pub operation_number : Operation → ℕ
operation_number Enter = 1
operation_number Change = 2
operation_number Remove = 3
operation_number Look = 4

-- The operation of a number; every other number has none.
abbrev pub operation_of : ℕ → Option Operation
operation_of n = cond (n == 1) (Some Enter) (cond (n == 2) (Some Change) (cond (n == 3) (Some Remove) (cond (n == 4) (Some Look) None)))

-- How an operation is written.
abbrev pub operation_name : Operation → List ℕ
operation_name Enter = codes "enter"
operation_name Change = codes "change"
operation_name Remove = codes "remove"
operation_name Look = codes "look"

-- Done is 0, already there 1, not there 2, no room 3.
abbrev pub answer_number : Answer → ℕ
answer_number Done = 0
answer_number AlreadyThere = 1
answer_number NotThere = 2
answer_number NoRoom = 3

-- The number of each refusal of the five calls.
abbrev pub refusal_number : Refusal → ℕ
refusal_number WrongLength = 1
refusal_number WrongCount = 2
refusal_number NoHead = 3
refusal_number BrokenChain = 4
refusal_number WrongLow = 5
refusal_number MisplacedKey = 6
refusal_number NoChangeNumber = 7
refusal_number Closed = 9
refusal_number NoSuchRunner = 10
refusal_number Busy = 11
refusal_number NoSuchOperation = 12
refusal_number NotAKey = 13
refusal_number BeingEntered = 14
refusal_number NumbersSpent = 15
refusal_number IdleRunner = 16
refusal_number AlreadyAnswered = 17
refusal_number StillOpen = 18
