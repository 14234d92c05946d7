-- The test suffices: registers of a class that neighbours block are at most their pressure.
use Rattle.std.proofs.Common.{◌≡◌, ℕ, zero, suc, ◌<◌, ◌≤◌, Bool, true, false, cond, ◌&&◌, length, inl, inr, arith}
use Rattle.std.proofs.lemmas.Bool.{cases_Bool, cases_lt, cond-true, both_ways}
use Rattle.counting.specs.Counting.{sum, count, any}
use Rattle.counting.proofs.Sums.{count_none}
use Rattle.registers.specs.Model.{Model, Lawful}
use Rattle.registers.proofs.Bounds.{few_clashes}
use Rattle.rounds.specs.Interference.{class_at}
use Rattle.rounds.specs.Pressure.{pressure}
use Rattle.rounds.specs.Select.{register_of}
use Rattle.colouring.specs.Selecting.{TestSuffices}
use Rattle.colouring.proofs.Counts.{any_false, count_or, count_up, more_found}

module _ (m : Model) (l : Lawful m) where
  -- a number that is no register overlaps nothing
  pub none_apart : (r s : ℕ) → m.count ≤ s → m.overlaps r s ≡ false
  none_apart r s h = elim (cases_Bool (m.overlaps r s)) [ inl e ↦ absurd (omega (arith, (l.apart r s e).1)) | inr e ↦ e ]

  pub turned : (r s : ℕ) → m.overlaps r s ≡ false → m.overlaps s r ≡ false
  turned r s h = elim (cases_Bool (m.overlaps s r)) [ inl e ↦ absurd (both_ways _ h (l.both_ways s r e)) | inr e ↦ e ]

  module _ (b : ℕ) (t : ℕ → Bool) (cls reg : ℕ → ℕ) where
    -- whether a register is blocked by the nodes below n
    abbrev blocked : ℕ → ℕ → Bool
    blocked n r = any (λ k. t k && m.overlaps r (reg k)) n

    abbrev pressing : ℕ → ℕ
    pressing n = sum (λ k. cond (t k) (m.q b (cls k)) 0) n

    abbrev lost : ℕ → ℕ → Bool
    lost n r = m.belongs r b && blocked n r

    blocked_le : (n : ℕ) → ((k : ℕ) → k < n → t k ≡ true → reg k < m.count → m.belongs (reg k) (cls k) ≡ true) → count (lost n) m.count ≤ pressing n
    unfolding sum any
    blocked_le zero ok = omega (arith, count_none (lost 0) m.count (λ r h. grind arith))
    blocked_le (suc n) ok =
        let rest = blocked_le n (λ k h. ok k (omega arith)) in
        elim (cases_Bool (t n)) [
          | inl e ↦ elim (cases_lt (reg n) m.count) [
            | inl h ↦ (
                let one = few_clashes m l b (cls n) (reg n) (ok n (omega arith) e h) in
                let both = count_or (lost (suc n)) (λ s. m.belongs s b && m.overlaps (reg n) s) (lost n) m.count (λ r k f. let way = l.both_ways r (reg n) in grind (arith, way)) in
                omega (arith, one, both, rest, cond-true (t n) (m.q b (cls n)) 0 e))
            | inr h ↦ (
                let same = count_up (lost (suc n)) (lost n) m.count (λ r k f. let none = none_apart r (reg n) h in grind (arith, none)) in
                omega (arith, same, rest))
          ]
          | inr e ↦ (
              let same = count_up (lost (suc n)) (lost n) m.count (λ r k f. grind (arith, e)) in
              omega (arith, same, rest))
        ]

    pub some_clear : (n : ℕ) → ((k : ℕ) → k < n → t k ≡ true → reg k < m.count → m.belongs (reg k) (cls k) ≡ true) → pressing n < m.p b →
        (r : ℕ) × (m.belongs r b ≡ true) × ((k : ℕ) → k < n → t k ≡ true → m.overlaps r (reg k) ≡ false)
    some_clear n ok low = clear_of (more_found (lost n) (λ r. m.belongs r b) m.count (omega (arith, blocked_le n ok, l.counted b)))
      where
        clear_of : (r : ℕ) × (r < m.count) × (m.belongs r b ≡ true) × (lost n r ≡ false) →
            (r : ℕ) × (m.belongs r b ≡ true) × ((k : ℕ) → k < n → t k ≡ true → m.overlaps r (reg k) ≡ false)
        clear_of (r, lt, of, gone) =
            let none : blocked n r ≡ false = grind arith in
            (r, of, λ k h e. let free = any_false (λ k. t k && m.overlaps r (reg k)) n k none h in grind (arith, free))

pub test_suffices : TestSuffices
unfolding pressure
test_suffices m l g taken v t ok low = some_clear m l (class_at g v) t (class_at g) (register_of m taken) (length g.classes) (λ k h. ok k) low
