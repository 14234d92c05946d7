-- Where temporaries are live: only inside the block that they belong to.
use Rattle.std.specs.Prelude.{◌≡◌, ℕ, suc, ◌+◌, ◌<◌, ◌≤◌, true, ◌⊎◌}
use Rattle.rows.specs.declared.Op.TheVariants.{Store}
use Rattle.rows.specs.Rows.{shape}
use Rattle.compiling.specs.Working.{Working}
use Rattle.simulation.specs.Static.{row_of}
use Rattle.interfering.specs.Living.{lives_before}
use Rattle.standing.specs.Standing.{source_rows, line_of, Filled, Standing}

-- source row i stands as a block of n loads, the row itself, and a store of a spilled result
abbrev pub BlockOf : Working → (ℕ → ℕ) → ℕ → ℕ → Type 0
BlockOf w start i n = Filled w.source w.places (line_of w) start i n

-- place q is behind a load of the block that writes t, and not behind the row
abbrev pub Loaded : Working → (ℕ → ℕ) → (q t i n : ℕ) → Type 0
Loaded w start q t i n = (k : ℕ) × (k < n) × ((line_of w (start i + k)).d ≡ t) × (start i + k < q) × (q ≤ start i + n)

-- place q is the block's store, right behind the row, which writes t
abbrev pub Made : Working → (ℕ → ℕ) → (q t i n : ℕ) → Type 0
Made w start q t i n = (q ≡ suc (start i + n)) × ((line_of w (start i + n)).d ≡ t) × (q < start (suc i)) × ((shape (row_of w.source i).op).d ≡ true) × ((line_of w q).op ≡ Store)

-- place q is inside a block in which t is written and still to be read
abbrev pub Inside : Working → (ℕ → ℕ) → (q t : ℕ) → Type 0
Inside w start q t = (i : ℕ) × (n : ℕ) × (i < source_rows w) × BlockOf w start i n × (Loaded w start q t i n ⊎ Made w start q t i n)

-- temporaries are live only inside their block
abbrev pub TemporariesInside : Type 0
TemporariesInside = (w : Working) (start : ℕ → ℕ) → Standing w start → (q t : ℕ) → w.source.vars ≤ t → lives_before w.rows q t ≡ true → Inside w start q t
