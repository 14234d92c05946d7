-- One merge: which edges are left when one node goes into another.
use Rattle.std.proofs.Common.{◌≡◌, ℕ, ◌<◌, Bool, true, false, cond, not, ◌&&◌, ◌||◌, eqb, List, map, length, get_or, set, sym, refl, ap, ◌∙◌, inl, inr, arith}
use Rattle.std.proofs.lemmas.List.{get_or_past, get_or-map, get_or-set_same, get_or-set_other, length-set, length-map}
use Rattle.std.proofs.lemmas.Bool.{cases_Bool, cases_lt, cases_eq, both_ways, or_cases, or_left, or_right, eq-eqb, ne_eqb}
use Rattle.sets.specs.Sets.{has, single, union, minus}
use Rattle.sets.proofs.Members.{has_union, has_minus, has_none, has_single}
use Rattle.rounds.specs.Interference.{beside}
use Rattle.rounds.specs.Coalescing.{renamed, contracted}

has_renamed : (low high x b : ℕ) → (low ≡ high → ⊥) → (b ≡ low → ⊥) → (b ≡ high → ⊥) → has (renamed low high x) b ≡ has x b
has_renamed low high x b ne l h = elim (cases_Bool (has x high)) [
  | inl e ↦ rw e (has_union (minus x (single high)) (single low) b ∙ rw (has_minus x (single high) b, has_single high b, has_single low b, ne_eqb b high h, ne_eqb b low l) (stays (has x b)))
  | inr e ↦ rw e
]
  where
    stays : (t : Bool) → ((t && true) || false) ≡ t
    stays t = grind arith

has_renamed_low : (low high x : ℕ) → (low ≡ high → ⊥) → has (renamed low high x) low ≡ (has x low || has x high)
has_renamed_low low high x ne = elim (cases_Bool (has x high)) [
  | inl e ↦ rw e (has_union (minus x (single high)) (single low) low ∙ rw (has_single low low, eq-eqb low low refl) (comes (has (minus x (single high)) low) (has x low)))
  | inr e ↦ rw e (stays (has x low))
]
  where
    comes : (s t : Bool) → (s || true) ≡ (t || true)
    comes s t = grind arith

    stays : (t : Bool) → t ≡ (t || false)
    stays t = grind arith

has_renamed_high : (low high x : ℕ) → (low ≡ high → ⊥) → has (renamed low high x) high ≡ false
has_renamed_high low high x ne = elim (cases_Bool (has x high)) [
  | inl e ↦ rw e (has_union (minus x (single high)) (single low) high ∙ rw (has_minus x (single high) high, has_single high high, has_single low high, eq-eqb high high refl, ne_eqb high low (λ q. ne (sym q))) (gone (has x high)))
  | inr e ↦ rw e e
]
  where
    gone : (t : Bool) → ((t && false) || false) ≡ false
    gone t = grind arith

renamed_none : (low high : ℕ) → renamed low high 0 ≡ 0
renamed_none low high = rw (has_none high)

renamed_at : (low high : ℕ) (es : List ℕ) (a : ℕ) → get_or (map (renamed low high) es) a 0 ≡ renamed low high (get_or es a 0)
renamed_at low high es a = elim (cases_lt a (length es)) [
  | inl l ↦ get_or-map (renamed low high) es a 0 0 l
  | inr l ↦ get_or_past (map (renamed low high) es) a 0 (rw (length-map es (renamed low high)) l) ∙ sym (ap (renamed low high) (get_or_past es a 0 l) ∙ renamed_none low high)
]

pub contracted_long : (low high : ℕ) (es : List ℕ) → length (contracted low high es) ≡ length es
unfolding contracted
contracted_long low high es = length-set (set (map (renamed low high) es) low _) high 0 ∙ length-set (map (renamed low high) es) low _ ∙ length-map es (renamed low high)

-- the edges of one graph after one of its nodes went into another
pub record Contracts (low high : ℕ) (E F : ℕ → ℕ → Bool) : Type 0 where
  pub from_high : (b : ℕ) → F high b ≡ false
  pub to_high : (a : ℕ) → F a high ≡ false
  pub loop : F low low ≡ false
  pub from_low : (b : ℕ) → (b ≡ low → ⊥) → (b ≡ high → ⊥) → F low b ≡ (E low b || E high b)
  pub to_low : (a : ℕ) → (a ≡ low → ⊥) → (a ≡ high → ⊥) → F a low ≡ (E a low || E a high)
  pub else : (a b : ℕ) → (a ≡ low → ⊥) → (a ≡ high → ⊥) → (b ≡ low → ⊥) → (b ≡ high → ⊥) → F a b ≡ E a b

module _ (low high : ℕ) (es : List ℕ) (ne : low < high) (inside : high < length es) where
  both : ℕ
  both = minus (union (beside es low) (beside es high)) (union (single low) (single high))

  differ : low ≡ high → ⊥
  differ = omega arith

  has_both : (b : ℕ) → has both b ≡ ((has (beside es low) b || has (beside es high) b) && not (eqb b low || eqb b high))
  unfolding both
  has_both b =
      has_minus (union (beside es low) (beside es high)) (union (single low) (single high)) b
      ∙ rw (has_union (beside es low) (beside es high) b, has_union (single low) (single high) b, has_single low b, has_single high b)

  at_high : beside (contracted low high es) high ≡ 0
  unfolding contracted both
  at_high = get_or-set_same (set (map (renamed low high) es) low both) high 0 0 (rw (length-set (map (renamed low high) es) low both, length-map es (renamed low high)) inside)

  at_low : beside (contracted low high es) low ≡ both
  unfolding contracted both
  at_low =
      get_or-set_other (set (map (renamed low high) es) low both) high low 0 0 differ
      ∙ get_or-set_same (map (renamed low high) es) low both 0 (rw (length-map es (renamed low high)) (omega arith))

  at_other : (a : ℕ) → (a ≡ low → ⊥) → (a ≡ high → ⊥) → beside (contracted low high es) a ≡ renamed low high (beside es a)
  unfolding contracted both
  at_other a l h =
      get_or-set_other (set (map (renamed low high) es) low both) high a 0 0 h ∙ get_or-set_other (map (renamed low high) es) low a both 0 l ∙ renamed_at low high es a

  pub contracts : Contracts low high (λ a b. has (beside es a) b) (λ a b. has (beside (contracted low high es) a) b)
  contracts = record {
    from_high = λ b. ap (λ (x : ℕ). has x b) at_high ∙ has_none b;
    to_high = to_high;
    loop = ap (λ (x : ℕ). has x low) at_low ∙ has_both low ∙ rw (eq-eqb low low refl) (none (has (beside es low) low || has (beside es high) low));
    from_low = λ b l h. ap (λ (x : ℕ). has x b) at_low ∙ has_both b ∙ rw (ne_eqb b low l, ne_eqb b high h) (all (has (beside es low) b || has (beside es high) b));
    to_low = λ a l h. ap (λ (x : ℕ). has x low) (at_other a l h) ∙ has_renamed_low low high (beside es a) differ;
    else = λ a b la ha lb hb. ap (λ (x : ℕ). has x b) (at_other a la ha) ∙ has_renamed low high (beside es a) b differ lb hb;
  }
    where
      none : (t : Bool) → (t && false) ≡ false
      none t = grind arith

      all : (t : Bool) → (t && true) ≡ t
      all t = grind arith

      to_high : (a : ℕ) → has (beside (contracted low high es) a) high ≡ false
      to_high a = elim (cases_eq a high) [
        | inl e ↦ rw e (ap (λ (x : ℕ). has x high) at_high ∙ has_none high)
        | inr h ↦ elim (cases_eq a low) [
          | inl e ↦ rw e (ap (λ (x : ℕ). has x high) at_low ∙ has_both high ∙ rw (ne_eqb high low (λ q. differ (sym q)), eq-eqb high high refl) (none (has (beside es low) high || has (beside es high) high)))
          | inr l ↦ ap (λ (x : ℕ). has x high) (at_other a l h) ∙ has_renamed_high low high (beside es a) differ
        ]
      ]

-- ---- edges between members of nodes

abbrev pub Linked : (ℕ → ℕ → Bool) → (ℕ → ℕ) → ℕ → ℕ → Type 0
Linked O n a b = (x : ℕ) × (y : ℕ) × (n x ≡ a) × (n y ≡ b) × (O x y ≡ true)

-- the node of v after high went into low
abbrev pub moved : ℕ → ℕ → ℕ → ℕ
moved low high r = cond (eqb r high) low r

pub moved_high : (low high r : ℕ) → r ≡ high → moved low high r ≡ low
moved_high low high r e = rw (eq-eqb r high e)

pub moved_other : (low high r : ℕ) → (r ≡ high → ⊥) → moved low high r ≡ r
moved_other low high r e = rw (ne_eqb r high e)

module _ (low high : ℕ) (O E F : ℕ → ℕ → Bool) (n n' : ℕ → ℕ) (c : Contracts low high E F) (less : low < high) (follows : (v : ℕ) → n' v ≡ moved low high (n v))
    (only : (a b : ℕ) → E a b ≡ true → (a ≡ b → ⊥) × Linked O n a b) (each : (a b : ℕ) → (a ≡ b → ⊥) → Linked O n a b → E a b ≡ true) where
  to_low : (x : ℕ) → n x ≡ high → n' x ≡ low
  to_low x e = follows x ∙ moved_high low high (n x) e

  stays : (x a : ℕ) → (a ≡ high → ⊥) → n x ≡ a → n' x ≡ a
  stays x a h e = follows x ∙ moved_other low high (n x) (λ q. h (sym e ∙ q)) ∙ e

  pub gathers_only : (a b : ℕ) → F a b ≡ true → (a ≡ b → ⊥) × Linked O n' a b
  gathers_only a b f = elim (cases_eq a high) [
    | inl e ↦ absurd (both_ways (F a b) (rw e (c.from_high b)) f)
    | inr ah ↦ elim (cases_eq b high) [
      | inl e ↦ absurd (both_ways (F a b) (rw e (c.to_high a)) f)
      | inr bh ↦ elim (cases_eq a low) [
        | inl al ↦ elim (cases_eq b low) [
          | inl bl ↦ absurd (both_ways (F a b) (rw (al, bl) c.loop) f)
          | inr bl ↦ elim (or_cases (E low b) (E high b) (sym (c.from_low b bl bh) ∙ (let z : F low b ≡ true = rw al at f in z))) [
            | inl e ↦ (let (_, (x, y, p, q, o)) = only low b e in (λ z. bl (sym z ∙ al), (x, y, stays x a ah (p ∙ sym al), stays y b bh q, o)))
            | inr e ↦ (let (_, (x, y, p, q, o)) = only high b e in (λ z. bl (sym z ∙ al), (x, y, to_low x p ∙ sym al, stays y b bh q, o)))
          ]
        ]
        | inr al ↦ elim (cases_eq b low) [
          | inl bl ↦ elim (or_cases (E a low) (E a high) (sym (c.to_low a al ah) ∙ (let z : F a low ≡ true = rw bl at f in z))) [
            | inl e ↦ (let (_, (x, y, p, q, o)) = only a low e in (λ z. al (z ∙ bl), (x, y, stays x a ah p, stays y b bh (q ∙ sym bl), o)))
            | inr e ↦ (let (_, (x, y, p, q, o)) = only a high e in (λ z. al (z ∙ bl), (x, y, stays x a ah p, to_low y q ∙ sym bl, o)))
          ]
          | inr bl ↦ (let (d, (x, y, p, q, o)) = only a b (sym (c.else a b al ah bl bh) ∙ f) in (d, (x, y, stays x a ah p, stays y b bh q, o)))
        ]
      ]
    ]
  ]

  pub gathers_each : (a b : ℕ) → (a ≡ b → ⊥) → Linked O n' a b → F a b ≡ true
  gathers_each a b d (x, y, p, q, o) = elim (cases_eq (n x) high) [
    | inl xh ↦ (let al : a ≡ low = sym p ∙ to_low x xh in elim (cases_eq (n y) high) [
      | inl yh ↦ absurd (d (al ∙ sym (to_low y yh) ∙ q))
      | inr yh ↦ (let yb : n y ≡ b = sym (stays y (n y) yh refl) ∙ q in
          let bh : b ≡ high → ⊥ = λ z. yh (yb ∙ z) in
          let e : E high b ≡ true = each high b (λ z. bh (sym z)) (x, y, xh, yb, o) in
          rw al (c.from_low b (λ z. d (al ∙ sym z)) bh ∙ or_right (E low b) _ e))
    ])
    | inr xh ↦ (let xa : n x ≡ a = sym (stays x (n x) xh refl) ∙ p in
        let ah : a ≡ high → ⊥ = λ z. xh (xa ∙ z) in
        elim (cases_eq (n y) high) [
          | inl yh ↦ (let bl : b ≡ low = sym q ∙ to_low y yh in
              let e : E a high ≡ true = each a high ah (x, y, xa, yh, o) in
              rw bl (c.to_low a (λ z. d (z ∙ sym bl)) ah ∙ or_right (E a low) _ e))
          | inr yh ↦ (let yb : n y ≡ b = sym (stays y (n y) yh refl) ∙ q in
              let bh : b ≡ high → ⊥ = λ z. yh (yb ∙ z) in
              let e : E a b ≡ true = each a b d (x, y, xa, yb, o) in
              elim (cases_eq a low) [
                | inl al ↦ (let z : E low b ≡ true = rw al at e in rw al (c.from_low b (λ z. d (al ∙ sym z)) bh ∙ or_left _ _ z))
                | inr al ↦ elim (cases_eq b low) [
                  | inl bl ↦ (let z : E a low ≡ true = rw bl at e in rw bl (c.to_low a al ah ∙ or_left _ _ z))
                  | inr bl ↦ c.else a b al ah bl bh ∙ e
                ]
              ])
        ])
  ]
