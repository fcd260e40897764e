-- A script is read line by line; what is left of it is kept, and the number of the line read last.
use Rattle.std.specs.Prelude.{◌≡◌, ℕ, ◌+◌, ◌≤◌, cond, List, length, is_some, Some, None, Option, ◌==◌, nat_lt}
use Rattle.commands.specs.Lines.{line_read}
use Rattle.commands.specs.Texts.{before_byte, after_byte}
use Rattle.commands.specs.declared.command.Command.{Command}
use Rattle.commands.specs.declared.command.Command.TheVariants.{Unreadable}

-- Lines are counted from 1, as far as 64 bits go.
abbrev pub line_after : ℕ → ℕ
line_after n = cond (nat_lt n 18446744073709551615) (n + 1) n

-- A line that cannot be read is told by its number.
abbrev pub command_of : ℕ → Option Command → Command
command_of n None = Unreadable n
command_of n (Some c) = c

-- The command of the next line; nothing at the end.
abbrev pub next_command : List ℕ → ℕ → Option Command
next_command rest n = cond (length rest == 0) None (Some (command_of (line_after n) (line_read (before_byte 10 rest))))

-- The number of the line read last, after that.
abbrev pub next_line : List ℕ → ℕ → ℕ
next_line rest n = cond (length rest == 0) n (line_after n)

-- What is left is no longer than it was, and shorter by a byte at least if there was a line.
abbrev pub ReadOn : {X : Type 0} → List ℕ → List ℕ → Option X → Type 0
ReadOn before after line = length after + cond (is_some line) 1 0 ≤ length before

-- One call for the next command: from what is left and the line read last to the command, and to the same after it.
pub record ReadsLine (rest : List ℕ) (n : ℕ) (command : Option Command) (left : List ℕ) (m : ℕ) : Type 0 where
  pub value : command ≡ next_command rest n
  pub after : (left ≡ after_byte 10 rest) × (m ≡ next_line rest n)
  pub bound : ReadOn rest left command
