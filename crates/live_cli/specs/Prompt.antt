-- What is known of a writer that hands on what each command wrote.
use Rattle.std.specs.Prelude.{ℕ, ◌==◌, Bool, List, Option, codes}
use Rattle.std.specs.List.{starts_with}
use Rattle.uc_io.specs.Host.{failed_writes_of, held_by, StandsFor}
use Rattle.live_cli.specs.declared.prompt.PromptOut.{PromptOut}

-- how many writes failed
abbrev pub failures_of : {W : Type 0} → PromptOut W → ℕ
failures_of sink = failed_writes_of sink.out

-- the bytes that were taken and not handed on
abbrev pub kept_by : {W : Type 0} → PromptOut W → List ℕ
kept_by sink = held_by sink.out

-- it stands for what its sink does
abbrev pub PromptStands : {W : Type 0} → (W → Option (List ℕ)) → PromptOut W → List ℕ → Type 0
PromptStands contents sink taken = StandsFor contents sink.out taken

-- the line of an answer is the last of a command
abbrev pub ends_a_command : List ℕ → Bool
ends_a_command line = starts_with (λ a b. a == b) line (codes "answer ")
