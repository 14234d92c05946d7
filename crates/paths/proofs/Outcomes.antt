-- What admission answers to a file that is read, by the paths of its program.
use Rattle.std.proofs.Common.{◌≡◌, ℕ, ◌<◌, true, false, not, ◌⊎◌, List, length, Ok, Err, Option, Result, sym, refl, ap, ◌∙◌, subst, inl, inr, arith}
use Rattle.std.proofs.lemmas.Bool.{cases_lt, cases_order, both_ways, not-true, not-false}
use Rattle.counting.specs.Counting.{least}
use Rattle.counting.proofs.Searches.{least_below, least_found}
use Rattle.faults.specs.declared.RowFault.{RowFault}
use Rattle.faults.specs.declared.ProgramFault.{ProgramFault}
use Rattle.faults.specs.declared.ProgramFault.TheVariants.{Rows, Unreached, Unwritten}
use Rattle.rows.specs.Rows.{Program}
use Rattle.source.specs.Reading.{reading}
use Rattle.admission.specs.Kinds.{reached, sure}
use Rattle.admission.specs.Admission.{fact_fault, faultless, judged, admitting}
use Rattle.admission.proofs.Judging.{fault_lost, fault_raw, fault_none}
use Rattle.paths.specs.Paths.{written_on, Reachable, Ready, Unready, Sound, FirstUnreached, FirstUnwritten, AdmissionByPaths, UnreachedByPaths, UnwrittenByPaths}
use Rattle.paths.proofs.Facts.{reached_path, path_reached, unsure_path, sure_path, sure_at, unsure_reads}
use Rattle.paths.proofs.Files.{Held, held}

module _ (p : Program) (h : Held p) where
  -- a sure row finds all that it reads written, on every path
  sure_ready : (i : ℕ) → i < length p.rows → sure p.vars p.rows i ≡ true → Ready p.rows i
  sure_ready i l s path leads v r =
      let lt = h.named i v l r in
      sure_path p.vars p.rows v lt h.few i path l (sure_at p.vars p.rows i v s (omega (arith, lt, h.few)) r) leads

  -- a row that is not sure reads what some path to it has not written
  unsure_unready : (i : ℕ) → i < length p.rows → sure p.vars p.rows i ≡ false → Unready p.rows i
  unsure_unready i l s =
      let (v, r, none) = unsure_reads p.vars p.rows i s in
      let (path, leads, clear) = unsure_path p.vars p.rows v (h.named i v l r) h.few i l none in
      (path, leads, v, r, clear)

-- a row is not both
unready_not : (p : Program) (i : ℕ) → Unready p.rows i → Ready p.rows i → ⊥
unready_not p i (path, leads, v, r, clear) ready = both_ways (written_on p.rows path v) clear (ready path leads v r)

-- the lowest row is one row
unreached_one : (p : Program) (i k : ℕ) → FirstUnreached p i → FirstUnreached p k → i ≡ k
unreached_one p i k a b =
    elim (cases_order i k) [ inl e ↦ e | inr (inl l) ↦ absurd (a.lost (b.lower i l)) | inr (inr l) ↦ absurd (b.lost (a.lower k l)) ]

unwritten_one : (p : Program) (i k : ℕ) → FirstUnwritten p i → FirstUnwritten p k → i ≡ k
unwritten_one p i k a b =
    elim (cases_order i k) [ inl e ↦ e | inr (inl l) ↦ absurd (unready_not p i a.raw (b.lower i l)) | inr (inr l) ↦ absurd (unready_not p k b.raw (a.lower k l)) ]

-- ---- from the fault to the answer

-- a file that was read is answered by the fault of its rows
admitting_read : (bs : List ℕ) (p : Program) → reading bs ≡ Ok p → admitting bs ≡ faultless (fact_fault p) p
unfolding admitting
admitting_read bs p h = rw h

-- a file was read, or the fault of its reading is the answer
judged_read : (r : Result Program RowFault) → ((p : Program) × (r ≡ Ok p)) ⊎ ((e : RowFault) × (judged r ≡ Err (Rows e)))
judged_read (Ok p) = inl (p, refl)
judged_read (Err e) = inr (e, refl)

admitting_or : (bs : List ℕ) → ((p : Program) × (reading bs ≡ Ok p)) ⊎ ((e : RowFault) × (admitting bs ≡ Err (Rows e)))
unfolding admitting
admitting_or bs = judged_read (reading bs)

-- the three answers to a file that was read
abbrev Outcome : List ℕ → Program → Type 0
Outcome bs p =
    ((i : ℕ) × FirstUnreached p i × (admitting bs ≡ Err (Unreached i)))
    ⊎ (((i : ℕ) × FirstUnwritten p i × (admitting bs ≡ Err (Unwritten i))) ⊎ (Sound p × (admitting bs ≡ Ok p)))

outcome : (bs : List ℕ) (p : Program) → reading bs ≡ Ok p → Outcome bs p
outcome bs p h =
    let n : ℕ = length p.rows in
    let holds : Held p = held bs p h in
    let answer : (o : Option ProgramFault) → o ≡ fact_fault p → admitting bs ≡ faultless o p = λ o e. admitting_read bs p h ∙ ap (λ (f : Option ProgramFault). faultless f p) (sym e) in
    let lost : ℕ = least (λ i. not (reached p.rows i)) n in
    let raw : ℕ = least (λ i. not (sure p.vars p.rows i)) n in
    let reach : (k : ℕ) → k < n → k < lost → Reachable p.rows k = λ k l b. reached_path p.rows k l (not-false _ (least_below (λ i. not (reached p.rows i)) n k b)) in
    let ready : (k : ℕ) → k < n → k < raw → Ready p.rows k = λ k l b. sure_ready p holds k l (not-false _ (least_below (λ i. not (sure p.vars p.rows i)) n k b)) in
    elim (cases_lt lost n) [
      | inl l ↦ inl (
        lost,
        record {
          inside = l;
          lost = λ (path, leads). both_ways (reached p.rows lost) (not-true _ (least_found (λ i. not (reached p.rows i)) n l)) (path_reached p.rows lost path l leads);
          lower = λ k b. reach k (omega arith) b;
        },
        answer _ (fault_lost p p.rows lost refl refl l),
      )
      | inr g ↦ elim (cases_lt raw n) [
        | inl l ↦ inr (inl (
          raw,
          record {
            reachable = λ k b. reach k b (omega arith);
            inside = l;
            raw = unsure_unready p holds raw l (not-true _ (least_found (λ i. not (sure p.vars p.rows i)) n l));
            lower = λ k b. ready k (omega arith) b;
          },
          answer _ (fault_raw p p.rows lost raw refl refl g refl l),
        ))
        | inr e ↦ inr (inr (record { reachable = λ k b. reach k b (omega arith); written = λ k b. ready k b (omega arith) }, answer _ (fault_none p p.rows lost raw refl refl g refl e)))
      ]
    ]

-- ---- the theorems

-- two answers that differ
ok_err : (p : Program) (e : ProgramFault) → ◌≡◌ {A = Result Program ProgramFault} (Ok p) (Err e) → ⊥
ok_err p e h = let z : ◌≡◌ {A = ℕ} 0 1 = cc in omega arith

rows_unreached : (e : RowFault) (i : ℕ) → ◌≡◌ {A = Result Program ProgramFault} (Err (Rows e)) (Err (Unreached i)) → ⊥
rows_unreached e i h = let z : ◌≡◌ {A = ℕ} 0 1 = cc in omega arith

rows_unwritten : (e : RowFault) (i : ℕ) → ◌≡◌ {A = Result Program ProgramFault} (Err (Rows e)) (Err (Unwritten i)) → ⊥
rows_unwritten e i h = let z : ◌≡◌ {A = ℕ} 0 1 = cc in omega arith

unreached_unwritten : (i k : ℕ) → ◌≡◌ {A = Result Program ProgramFault} (Err (Unreached i)) (Err (Unwritten k)) → ⊥
unreached_unwritten i k h = let z : ◌≡◌ {A = ℕ} 0 1 = cc in omega arith

-- answers that agree
same_unreached : (i k : ℕ) → ◌≡◌ {A = Result Program ProgramFault} (Err (Unreached i)) (Err (Unreached k)) → i ≡ k
same_unreached i k h = cc

same_unwritten : (i k : ℕ) → ◌≡◌ {A = Result Program ProgramFault} (Err (Unwritten i)) (Err (Unwritten k)) → i ≡ k
same_unwritten i k h = cc

same_program : (p q : Program) → ◌≡◌ {A = Result Program ProgramFault} (Ok p) (Ok q) → p ≡ q
same_program p q h = cc

-- a file with an answer other than a fault of its reading was read
read_by : (bs : List ℕ) (a : Result Program ProgramFault) → admitting bs ≡ a → ((e : RowFault) → Err (Rows e) ≡ a → ⊥) → (p : Program) × (reading bs ≡ Ok p)
read_by bs a h other = elim (admitting_or bs) [ inl w ↦ w | inr (e, f) ↦ absurd (other e (sym f ∙ h)) ]

pub admission_by_paths : AdmissionByPaths
admission_by_paths bs p = record {
  only = λ h. (let (q, r) = read_by bs (Ok p) h (λ e f. ok_err p _ (sym f)) in
      elim (outcome bs q r) [
        | inl (i, a, f) ↦ absurd (ok_err p _ (sym h ∙ f))
        | inr (inl (i, a, f)) ↦ absurd (ok_err p _ (sym h ∙ f))
        | inr (inr (a, f)) ↦ (let e : q ≡ p = same_program q p (sym f ∙ h) in (r ∙ ap (λ (x : Program). Ok x) e, subst Sound e a))
      ]);
  each = λ r s. elim (outcome bs p r) [
    | inl (i, a, f) ↦ absurd (a.lost (s.reachable i a.inside))
    | inr (inl (i, a, f)) ↦ absurd (unready_not p i a.raw (s.written i a.inside))
    | inr (inr (a, f)) ↦ f
  ];
}

pub unreached_by_paths : UnreachedByPaths
unreached_by_paths bs i = record {
  only = λ h. (let (p, r) = read_by bs (Err (Unreached i)) h (λ e. rows_unreached e i) in
      elim (outcome bs p r) [
        | inl (k, a, f) ↦ (let e : k ≡ i = same_unreached k i (sym f ∙ h) in (p, r, subst (FirstUnreached p) e a))
        | inr (inl (k, a, f)) ↦ absurd (unreached_unwritten i k (sym h ∙ f))
        | inr (inr (a, f)) ↦ absurd (ok_err p _ (sym f ∙ h))
      ]);
  each = λ p r s. elim (outcome bs p r) [
    | inl (k, a, f) ↦ (let e : k ≡ i = unreached_one p k i a s in f ∙ ap (λ (x : ℕ). Err (Unreached x)) e)
    | inr (inl (k, a, f)) ↦ absurd (s.lost (a.reachable i s.inside))
    | inr (inr (a, f)) ↦ absurd (s.lost (a.reachable i s.inside))
  ];
}

pub unwritten_by_paths : UnwrittenByPaths
unwritten_by_paths bs i = record {
  only = λ h. (let (p, r) = read_by bs (Err (Unwritten i)) h (λ e. rows_unwritten e i) in
      elim (outcome bs p r) [
        | inl (k, a, f) ↦ absurd (unreached_unwritten k i (sym f ∙ h))
        | inr (inl (k, a, f)) ↦ (let e : k ≡ i = same_unwritten k i (sym f ∙ h) in (p, r, subst (FirstUnwritten p) e a))
        | inr (inr (a, f)) ↦ absurd (ok_err p _ (sym f ∙ h))
      ]);
  each = λ p r s. elim (outcome bs p r) [
    | inl (k, a, f) ↦ absurd (a.lost (s.reachable k a.inside))
    | inr (inl (k, a, f)) ↦ (let e : k ≡ i = unwritten_one p k i a s in f ∙ ap (λ (x : ℕ). Err (Unwritten x)) e)
    | inr (inr (a, f)) ↦ absurd (unready_not p i s.raw (a.written i s.inside))
  ];
}
