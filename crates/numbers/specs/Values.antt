-- What a call that is refused leaves.
use Rattle.std.specs.Prelude.{Result, Ok, Err}
use Rattle.numbers.specs.declared.refusal.Refusal.{Refusal}

-- the value that a call returns, or what stood there
abbrev pub value_or : {A : Type 0} → Result A Refusal → A → A
value_or (Ok x) old = x
value_or (Err refusal) old = old
