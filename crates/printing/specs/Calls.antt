-- What is printed of the calls on a rehearsal.
use Rattle.std.specs.Prelude.{ℕ, List, ◌++◌, codes, decimal}
use Rattle.printing.specs.Texts.{numbers_text}

-- a restart that was served: how many numbers the input has, and these
unfoldable pub restarted_text : ℕ → List ℕ → List ℕ
restarted_text count input =
    codes "> restart " ++ (decimal count ++ (codes " " ++ (numbers_text input ++ codes " ok")))

-- a play that was served: the call, the rows asked for, the rows played, the outcome
unfoldable pub played_text : List ℕ → (asked rows outcome : ℕ) → List ℕ
played_text call asked rows outcome =
    codes "> " ++ (call ++ (codes " " ++ (decimal asked ++ (codes " " ++ (decimal rows ++ (codes " " ++ decimal outcome))))))

-- the state: both outputs, the numbers of the registers and those of the slots
unfoldable pub state_text : (source code bank slots : List ℕ) → List ℕ
state_text source code bank slots =
    codes "> state "
    ++ (numbers_text source
    ++ (codes " "
    ++ (numbers_text code
    ++ (codes " "
    ++ (numbers_text bank
    ++ (codes " "
    ++ numbers_text slots))))))
