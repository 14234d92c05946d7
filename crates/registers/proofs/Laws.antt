-- A description that passes its tests makes a lawful file, and runs that its banks may use.
use Rattle.std.proofs.Common.{◌≡◌, ℕ, ◌+◌, ◌<◌, ◌≤◌, Bool, true, false, cond, not, ◌&&◌, ◌||◌, eqb, ltb, leb, ◌⊎◌, [], length, get_or, sym, refl, ap, ◌∙◌, inl, inr, zero-le, arith}
use Rattle.std.proofs.lemmas.List.{get_or_past}
use Rattle.std.proofs.lemmas.Bool.{and_parts, and_from, and_left, and_right, and_cases, ltb-true, ltb-false, leb-true, eqb-true, lt-ltb, le-ltb, cases_lt, cond-false, cond_both, both_ways}
use Rattle.counting.specs.Counting.{count as count_of, most, all}
use Rattle.counting.proofs.Searches.{all_at}
use Rattle.counting.proofs.Sums.{count_none, most_none}
use Rattle.registers.specs.Model.{Lawful, class_bits, clashes}
use Rattle.registers.specs.Description.{Description, Tested, fenced, lowest, meets}
use Rattle.registers.proofs.RunBits.{Wired}

abbrev classes : ℕ
classes = 3

implied : (a b : Bool) → (not a || b) ≡ true → a ≡ true → b ≡ true
implied true b t e = t
implied false b t e = absurd (both_ways false refl e)

agrees : (a b : Bool) → cond a b (not b) ≡ true → b ≡ false → a ≡ false
agrees true b t e = absurd (both_ways b e t)
agrees false b t e = refl

module _ (d : Description) (t : Tested d) where
  in_class : (r c : ℕ) → (fenced d).belongs r c ≡ true → (r < d.count) × (c < 3) × (d.belongs r c ≡ true)
  in_class r c e =
      let a = and_parts (ltb r d.count) _ e in
      let inner = and_parts (ltb c 3) (d.belongs r c) a.1 in
      (ltb-true r d.count a.0, ltb-true c 3 inner.0, inner.1)

  touch : (r s : ℕ) → (fenced d).overlaps r s ≡ true → (r < d.count) × (s < d.count) × (d.overlaps r s ≡ true)
  touch r s e =
      let a = and_parts (ltb r d.count) _ e in
      let inner = and_parts (ltb s d.count) (d.overlaps r s) a.1 in
      (ltb-true r d.count a.0, ltb-true s d.count inner.0, inner.1)

  no_class : (c : ℕ) → 3 ≤ c → (r : ℕ) → (fenced d).belongs r c ≡ false
  no_class c h r = and_right (ltb r d.count) _ (rw (le-ltb c 3 h))

  narrow_at : (r : ℕ) → (fenced d).width r ≤ 32
  narrow_at r = elim (cases_lt r d.count) [
    | inl lt ↦ rw (lt-ltb r d.count lt) (leb-true (d.width r) 32 (all_at (λ r. leb (d.width r) 32) d.count r t.narrow lt))
    | inr ge ↦ rw (le-ltb r d.count ge) (omega arith)
  ]

  both_ways_at : (r s : ℕ) → (fenced d).overlaps r s ≡ true → (fenced d).overlaps s r ≡ true
  both_ways_at r s e =
      let h = touch r s e in
      let row = all_at (λ r. all (λ s. not (d.overlaps r s) || d.overlaps s r) d.count) d.count r t.both_ways h.0 in
      let back = implied (d.overlaps r s) (d.overlaps s r) (all_at (λ s. not (d.overlaps r s) || d.overlaps s r) d.count s row h.1) h.2 in
      and_from _ _ (lt-ltb s d.count h.1) (and_from _ _ (lt-ltb r d.count h.0) back)

  wide_at : (r c : ℕ) → (fenced d).belongs r c ≡ true → class_bits c ≤ (fenced d).width r
  wide_at r c e =
      let h = in_class r c e in
      let row = all_at (λ r. all (λ c. not (d.belongs r c) || leb (class_bits c) (d.width r)) 3) d.count r t.wide h.0 in
      let at = all_at (λ c. not (d.belongs r c) || leb (class_bits c) (d.width r)) classes c row h.1 in
      rw (lt-ltb r d.count h.0) (leb-true (class_bits c) (d.width r) (implied (d.belongs r c) _ at h.2))

  abbrev largest : ℕ → ℕ → ℕ
  largest b c = most (λ r. cond ((fenced d).belongs r c) (clashes (fenced d) b r) 0) d.count

  sizes : (length d.p ≡ 3) × (length d.q ≡ 3) × ((b : ℕ) → b < 3 → length (get_or d.q b []) ≡ 3)
  sizes =
      let one = and_parts (eqb (length d.p) 3) _ t.sized in
      let rest = and_parts (eqb (length d.q) 3) _ one.1 in
      (eqb-true (length d.p) 3 one.0, eqb-true (length d.q) 3 rest.0, λ b h. eqb-true _ 3 (all_at (λ b. eqb (length (get_or d.q b [])) 3) classes b rest.1 h))

  no_p : (c : ℕ) → 3 ≤ c → (fenced d).p c ≡ 0
  no_p c ge = get_or_past d.p c 0 (omega (arith, sizes.0))

  no_q : (b c : ℕ) → (3 ≤ b) ⊎ (3 ≤ c) → (fenced d).q b c ≡ 0
  no_q b c outside = elim (cases_lt b 3) [
    | inr ge ↦ ap (λ row. get_or row c 0) (get_or_past d.q b [] (omega (arith, sizes.1)))
    | inl b3 ↦ get_or_past (get_or d.q b []) c 0 (elim outside [ inl ge ↦ absurd (omega arith) | inr ge ↦ omega (arith, sizes.2 b b3) ])
  ]

  counted_at : (c : ℕ) → (fenced d).p c ≡ count_of (λ r. (fenced d).belongs r c) d.count
  counted_at c = elim (cases_lt c 3) [
    | inl lt ↦ eqb-true ((fenced d).p c) _ (all_at (λ c. eqb ((fenced d).p c) (count_of (λ r. (fenced d).belongs r c) d.count)) classes c t.counted lt)
    | inr ge ↦ no_p c ge ∙ sym (count_none (λ r. (fenced d).belongs r c) d.count (λ r _. no_class c ge r))
  ]

  -- nothing clashes where one of the classes is none
  reckoned_outside : (b c : ℕ) → (3 ≤ b) ⊎ (3 ≤ c) → (r : ℕ) → cond ((fenced d).belongs r c) (clashes (fenced d) b r) 0 ≡ 0
  reckoned_outside b c (inr ge) r = cond-false _ _ 0 (no_class c ge r)
  reckoned_outside b c (inl ge) r = cond_both ((fenced d).belongs r c) (clashes (fenced d) b r) 0 (λ n. n ≡ 0)
      (λ _. count_none (λ s. (fenced d).belongs s b && (fenced d).overlaps r s) d.count (λ s _. and_left _ _ (no_class b ge s))) (λ _. refl)

  reckoned_at : (b c : ℕ) → (fenced d).q b c ≡ largest b c
  reckoned_at b c =
      let none : (3 ≤ b) ⊎ (3 ≤ c) → (fenced d).q b c ≡ largest b c = λ outside. no_q b c outside ∙ sym (most_none _ d.count (λ r _. reckoned_outside b c outside r)) in
      elim (cases_lt b 3) [
        | inr ge ↦ none (inl ge)
        | inl b3 ↦ elim (cases_lt c 3) [
          | inr ge ↦ none (inr ge)
          | inl c3 ↦
              let row = all_at (λ b. all (λ c. eqb ((fenced d).q b c) (largest b c)) 3) classes b t.reckoned b3 in
              eqb-true ((fenced d).q b c) _ (all_at (λ c. eqb ((fenced d).q b c) (largest b c)) classes c row c3)
        ]
      ]

  room_at : (b c : ℕ) → b < 3 → c < 3 → (fenced d).q b c < (fenced d).p b
  room_at b c b3 c3 =
      let row = all_at (λ b. all (λ c. ltb ((fenced d).q b c) ((fenced d).p b)) 3) classes b t.room b3 in
      ltb-true ((fenced d).q b c) ((fenced d).p b) (all_at (λ c. ltb ((fenced d).q b c) ((fenced d).p b)) classes c row c3)

  pub lawful : Lawful (fenced d)
  lawful = record {
    some = leb-true 1 d.count t.some;
    few = leb-true d.count 64 t.few;
    self = λ r h. rw (lt-ltb r d.count h) (all_at (λ r. d.overlaps r r) d.count r t.self h);
    both_ways = both_ways_at;
    narrow = narrow_at;
    wide = wide_at;
    counted = counted_at;
    reckoned = reckoned_at;
    room = room_at;
    outside = λ r c e. ((in_class r c e).0, (in_class r c e).1);
    apart = λ r s e. ((touch r s e).0, (touch r s e).1);
    nothing = λ r h. rw (le-ltb r d.count h);
  }

  -- registers that do not overlap have runs that do not meet
  no_meeting : (r s : ℕ) → r < d.count → s < d.count → d.overlaps r s ≡ false → (d.low s + d.width s ≤ d.low r) ⊎ (d.low r + d.width r ≤ d.low s)
  no_meeting r s hr hs e =
      let row = all_at (λ r. all (λ s. cond (meets d r s) (d.overlaps r s) (not (d.overlaps r s))) d.count) d.count r t.shared hr in
      let at = all_at (λ s. cond (meets d r s) (d.overlaps r s) (not (d.overlaps r s))) d.count s row hs in
      elim (and_cases _ _ (agrees (meets d r s) (d.overlaps r s) at e)) [ inl a ↦ inl (ltb-false _ _ a) | inr a ↦ inr (ltb-false _ _ a) ]

  apart_at : (r s : ℕ) → (fenced d).overlaps r s ≡ false →
      ((fenced d).width r ≡ 0) ⊎ ((lowest d s + (fenced d).width s ≤ lowest d r) ⊎ (lowest d r + (fenced d).width r ≤ lowest d s))
  apart_at r s e = elim (cases_lt r d.count) [
    | inr ge ↦ inl (rw (le-ltb r d.count ge))
    | inl lt ↦ elim (cases_lt s d.count) [
      | inr ge ↦ inr (inl (rw (le-ltb s d.count ge) zero-le))
      | inl within ↦
          let off : d.overlaps r s ≡ false = rw (lt-ltb r d.count lt, lt-ltb s d.count within) at e in
          rw (lt-ltb r d.count lt, lt-ltb s d.count within) (inr (no_meeting r s lt within off))
    ]
  ]

  pub wired : Wired (fenced d) (lowest d)
  wired = record { apart = apart_at }
