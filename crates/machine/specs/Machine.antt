-- Machine: what one row does, for variables and for registers alike.
use Rattle.std.specs.Prelude.{ℕ, ◌+◌, ◌-◌, ◌%◌, ◌^◌, Bool, true, false, cond, not, ◌&&◌, ◌||◌, List, [], ◌∷◌, ◌++◌, length, Ok, Err, Result, ◌==◌, bit_and, bit_xor, nat_lt}
use Rattle.rows.specs.declared.Op.{Op}
use Rattle.rows.specs.declared.Op.TheVariants.{End, Const, Copy, Add, Sub, And, Xor, Widen, Narrow, Input, Output, Jump, Less, Load, Store}
use Rattle.rows.specs.declared.Row.{Row}
use Rattle.rows.specs.Rows.{shape, bits}
use Rattle.machine.specs.declared.Outcome.{Outcome}
use Rattle.machine.specs.declared.Outcome.TheVariants.{Running, Ended, Starved, Full}

-- the number of each outcome
abbrev pub number_of : Outcome → ℕ
number_of Running = 0
number_of Ended = 1
number_of Starved = 2
number_of Full = 3

-- whether a player with this outcome has not ended
abbrev pub is_running : Outcome → Bool
is_running Running = true
is_running Ended = false
is_running Starved = false
is_running Full = false

-- what a player has beside variables or registers: slots, the input that is left, its output, its outcome
pub record Shared : Type 0 where
  pub slots : ℕ → ℕ
  pub input : List ℕ
  pub output : List ℕ
  pub outcome : Outcome

-- numbers with x at place i
abbrev pub put : (ℕ → ℕ) → ℕ → ℕ → ℕ → ℕ
put numbers i x j = cond (j == i) x (numbers j)

-- slots with x in slot s; there are 64
abbrev pub stored : (ℕ → ℕ) → ℕ → ℕ → ℕ → ℕ
stored slots s x = cond (nat_lt s 64) (put slots s x) slots

-- what an opcode makes of its operands: the number for d, or the outcome of the player that it ends; what is shared afterwards
pub record Meaning : Type 0 where
  pub answer : Result ℕ Outcome
  pub shared : Shared

-- the row ends the player
abbrev pub ending : Outcome → Shared → Meaning
ending outcome h = record { answer = Err outcome; shared = h }

-- the row gives v for d
abbrev pub giving : ℕ → Shared → Meaning
giving v h = record { answer = Ok v; shared = h }

-- an input row, by the input that is left
abbrev pub taking : List ℕ → Shared → Meaning
taking [] h = ending Starved h
taking (n ∷ ns) h = giving n (record { slots = h.slots; input = ns; output = h.output; outcome = h.outcome })

-- an output row of x
abbrev pub putting : ℕ → Shared → Meaning
putting x h =
    cond (nat_lt (length h.output) 256)
    (giving 0 (record { slots = h.slots; input = h.input; output = h.output ++ x ∷ []; outcome = h.outcome }))
    (ending Full h)

-- the table of meanings; x and y are what a and b hold, then the constant and the slot of the row
abbrev pub meaning : Op → (x y constant slot : ℕ) → Shared → Meaning
meaning End x y constant slot h = ending Ended h
meaning Const x y constant slot h = giving constant h
meaning Copy x y constant slot h = giving x h
meaning Add x y constant slot h = giving (x + y) h
meaning Sub x y constant slot h = giving (x + 2 ^ 32 - y) h
meaning And x y constant slot h = giving (bit_and x y) h
meaning Xor x y constant slot h = giving (bit_xor x y) h
meaning Widen x y constant slot h = giving x h
meaning Narrow x y constant slot h = giving x h
meaning Input x y constant slot h = taking h.input h
meaning Output x y constant slot h = putting x h
meaning Jump x y constant slot h = giving 0 h
meaning Less x y constant slot h = giving 0 h
meaning Load x y constant slot h = giving (h.slots slot) h
meaning Store x y constant slot h = giving 0 (record { slots = stored h.slots slot x; input = h.input; output = h.output; outcome = h.outcome })

-- whether a row goes on at its target: a jump always, a less if x is less than y
abbrev pub jumps : Op → (x y : ℕ) → Bool
jumps o x y = (shape o).target && (not (shape o).falls || nat_lt x y)

-- the effect of a row: what is shared afterwards, whether the player goes on, the number for d, whether it goes to the target
pub record Effect : Type 0 where
  pub shared : Shared
  pub ran : Bool
  pub value : ℕ
  pub jumped : Bool

-- nothing happens, but that the outcome is as given
abbrev pub halted : Outcome → Shared → Effect
halted outcome h = record { shared = record { slots = h.slots; input = h.input; output = h.output; outcome = outcome }; ran = false; value = 0; jumped = false }

-- the effect that an answer comes to: a number is taken modulo 2 to the bits of a class, an outcome ends the player; what is shared before and afterwards
abbrev pub answered : (class : ℕ) → (jumped : Bool) → (before after : Shared) → Result ℕ Outcome → Effect
answered class jumped before after (Ok v) = record { shared = after; ran = true; value = v % 2 ^ bits class; jumped = jumped }
answered class jumped before after (Err outcome) = halted outcome before

-- the effect of a row whose a and b hold x and y: an ended player rests, a row that ends it changes the outcome alone, any other row does what it means
unfoldable pub effect : Row → (x y : ℕ) → Shared → Effect
effect r x y h =
    let m = meaning r.op x y r.constant r.slot h in
    cond (is_running h.outcome) (answered r.dclass (jumps r.op x y) h m.shared m.answer) (halted h.outcome h)
