-- What the effect of a row hangs on, and where a row may go.
use Rattle.std.proofs.Common.{◌≡◌, ℕ, suc, ◌%◌, ◌^◌, ◌<◌, Bool, true, false, eqb, ◌⊎◌, List, [], ◌∷◌, ◌++◌, Err, sym, refl, ap, ◌∙◌, inl, inr, append_assoc, append-nil, mod-lt, mod-eq_of_lt, arith, pow_pos}
use Rattle.std.proofs.lemmas.Bool.{cases_Bool, eq-eqb, ne_eqb, cond-true, cond-false, and_from, and_right, both_ways, true≢false, false≢true, lt-ltb}
use Rattle.rows.specs.declared.Op.{Op}
use Rattle.rows.specs.declared.Op.TheVariants.{End, Const, Copy, Add, Sub, And, Xor, Widen, Narrow, Input, Output, Jump, Less, Load, Store}
use Rattle.rows.specs.declared.Row.{Row}
use Rattle.rows.specs.Rows.{shape, copies, bits}
use Rattle.machine.specs.declared.Outcome.{Outcome}
use Rattle.machine.specs.Machine.{is_running, Shared, put, Meaning, meaning, jumps, Effect, effect}
use Rattle.machine.specs.Players.{Player, running, at, writes_now, next_row, stepped}
use Rattle.machine.specs.Agreement.{Begins}
use Rattle.machine.proofs.Effects.{cases_Result, rests, Rests, Ends, Goes, ways, jumped_may, falls_may}
use Rattle.simulation.specs.Static.{Lively}

-- only what is read bears on the meaning
pub meaning_same : (o : Op) (x x' y y' k s : ℕ) (h : Shared) → ((shape o).a ≡ true → x ≡ x') → ((shape o).b ≡ true → y ≡ y') →
    (meaning o x y k s h ≡ meaning o x' y' k s h) × (jumps o x y ≡ jumps o x' y')
meaning_same End x x' y y' k s h p q = (refl, refl)
meaning_same Const x x' y y' k s h p q = (refl, refl)
meaning_same Copy x x' y y' k s h p q = let e = p refl in (rw e, refl)
meaning_same Add x x' y y' k s h p q = let e = p refl in let g = q refl in (rw (e, g), refl)
meaning_same Sub x x' y y' k s h p q = let e = p refl in let g = q refl in (rw (e, g), refl)
meaning_same And x x' y y' k s h p q = let e = p refl in let g = q refl in (rw (e, g), refl)
meaning_same Xor x x' y y' k s h p q = let e = p refl in let g = q refl in (rw (e, g), refl)
meaning_same Widen x x' y y' k s h p q = let e = p refl in (rw e, refl)
meaning_same Narrow x x' y y' k s h p q = let e = p refl in (rw e, refl)
meaning_same Input x x' y y' k s h p q = (refl, refl)
meaning_same Output x x' y y' k s h p q = let e = p refl in (rw e, refl)
meaning_same Jump x x' y y' k s h p q = (refl, refl)
meaning_same Less x x' y y' k s h p q = let e = p refl in let g = q refl in (refl, rw (e, g))
meaning_same Load x x' y y' k s h p q = (refl, refl)
meaning_same Store x x' y y' k s h p q = let e = p refl in (rw e, refl)

pub effect_same : (r : Row) (x x' y y' : ℕ) (h : Shared) → ((shape r.op).a ≡ true → x ≡ x') → ((shape r.op).b ≡ true → y ≡ y') → effect r x y h ≡ effect r x' y' h
unfolding effect
effect_same r x x' y y' h p q = let (m, j) = meaning_same r.op x x' y y' r.constant r.slot h p q in rw (m, j)

write_falls : (o : Op) (x y : ℕ) → (shape o).d ≡ true → jumps o x y ≡ false
write_falls o x y h = grind arith

pub write_on : (r : Row) (x y : ℕ) (h : Shared) → (shape r.op).d ≡ true → (effect r x y h).jumped ≡ false
unfolding effect
write_on r x y h e = grind (arith, write_falls r.op x y)

pub value_small : (r : Row) (x y : ℕ) (h : Shared) → (effect r x y h).value < 2 ^ bits r.dclass
value_small r x y h = elim (ways r x y h) [
  | Rests z e ↦ rw e (pow_pos (bits r.dclass))
  | Ends o z a e ↦ rw e (pow_pos (bits r.dclass))
  | Goes v z a e ↦ rw e (mod-lt v (pow_pos (bits r.dclass)))
]

pub put_same : (k : ℕ → ℕ) (i x j : ℕ) → j ≡ i → put k i x j ≡ x
put_same k i x j e = cond-true (eqb j i) x (k j) (eq-eqb j i e)

pub put_other : (k : ℕ → ℕ) (i x j : ℕ) → (j ≡ i → ⊥) → put k i x j ≡ k j
put_other k i x j e = cond-false (eqb j i) x (k j) (ne_eqb j i e)

pub is_copy : (o : Op) → copies o ≡ true → o ≡ Copy
is_copy o h = grind arith

pub copy_effect : (r : Row) (x y : ℕ) (h : Shared) → copies r.op ≡ true → is_running h.outcome ≡ true → x < 2 ^ bits r.dclass → effect r x y h ≡ record { shared = h; ran = true; value = x; jumped = false }
unfolding effect
copy_effect r x y h c z b = rw (is_copy r.op c, z) (ap (λ v. record { shared = h; ran = true; value = v; jumped = false }) (mod-eq_of_lt b))

-- what is live where the row goes was live before it, unless the row wrote it
pub arrives : (w : ℕ → Row) (live : ℕ → ℕ → Bool) → Lively w live → (m : Player) (v : ℕ) → live (next_row w m) v ≡ true → (writes_now w m ≡ true → v ≡ (w m.row).d → ⊥) → live m.row v ≡ true
arrives w live lv m v h nw =
    let r = w m.row in
    let x = m.numbers r.a in
    let y = m.numbers r.b in
    elim (cases_Bool (at w m).ran) [
      | inr off ↦ rw off at h
      | inl ran ↦ elim (cases_Bool (at w m).jumped) [
        | inl tk ↦ lv.target m.row v (jumped_may r x y m.shared tk) (rw (ran, tk) at h)
        | inr tk ↦ lv.below m.row v (falls_may r x y m.shared ran tk) (rw (ran, tk) at h) (λ d e. nw (and_from (shape r.op).d (at w m).ran d ran) e)
      ]
    ]

-- slots replaced
abbrev pub with_slots : (ℕ → ℕ) → Shared → Shared
with_slots σ h = record { slots = σ; input = h.input; output = h.output; outcome = h.outcome }

abbrev pub lifted : (ℕ → ℕ) → Effect → Effect
lifted σ u = record { shared = with_slots σ u.shared; ran = u.ran; value = u.value; jumped = u.jumped }

abbrev pub meant : (ℕ → ℕ) → Meaning → Meaning
meant σ m = record { answer = m.answer; shared = with_slots σ m.shared }

-- a plain row neither reads nor changes the slots
meaning_slots : (o : Op) (x y k s s' : ℕ) (σ : ℕ → ℕ) (h : Shared) → (shape o).slot ≡ false → meaning o x y k s' (with_slots σ h) ≡ meant σ (meaning o x y k s h)
meaning_slots o x y k s s' σ h p = grind arith

-- a row that a plain row stands for does the same, whatever the slots hold
pub effect_slots : (r r' : Row) (x y : ℕ) (h h' : Shared) → r'.op ≡ r.op → r'.dclass ≡ r.dclass → r'.constant ≡ r.constant → (shape r.op).slot ≡ false →
    h'.input ≡ h.input → h'.output ≡ h.output → h'.outcome ≡ h.outcome → effect r' x y h' ≡ lifted h'.slots (effect r x y h)
unfolding effect
effect_slots r r' x y h h' o b k p i u d =
    let hh : h' ≡ with_slots h'.slots h = λ j. record { slots = h'.slots; input = i j; output = u j; outcome = d j } in
    ap (λ z. effect r' x y z) hh ∙ rw (o, b, k, meaning_slots r.op x y r.constant r.slot r'.slot h'.slots h p)
    (elim (cases_Bool (is_running h.outcome)) [
      | inl z ↦ rw z (elim (cases_Result (meaning r.op x y r.constant r.slot h).answer) [ inl (v, e) ↦ rw e | inr (q, e) ↦ rw e ])
      | inr z ↦ rw z
    ])

pub load_at : (w : ℕ → Row) (m : Player) → (w m.row).op ≡ Load → running m ≡ true → at w m ≡ record { shared = m.shared; ran = true; value = m.shared.slots (w m.row).slot % 2 ^ bits (w m.row).dclass; jumped = false }
unfolding effect
load_at w m o z = rw (o, z)

pub store_at : (w : ℕ → Row) (m : Player) → (w m.row).op ≡ Store → (w m.row).slot < 64 → running m ≡ true →
    ((at w m).ran ≡ true) × ((at w m).jumped ≡ false) × ((at w m).shared ≡ with_slots (put m.shared.slots (w m.row).slot (m.numbers (w m.row).a)) m.shared)
unfolding effect
store_at w m o few z = (rw (o, z), rw (o, z), rw (o, z, lt-ltb (w m.row).slot 64 few))

meaning_outcome : (o : Op) (x y k s : ℕ) (h : Shared) → (meaning o x y k s h).shared.outcome ≡ h.outcome
meaning_outcome o x y k s h = grind arith

stops : (o : Op) (x y k s : ℕ) (h : Shared) (q : Outcome) → (meaning o x y k s h).answer ≡ Err q → is_running q ≡ false
stops o x y k s h q e = grind arith

pub ran_outcome : (r : Row) (x y : ℕ) (h : Shared) → (effect r x y h).ran ≡ true → (effect r x y h).shared.outcome ≡ h.outcome
ran_outcome r x y h n = elim (ways r x y h) [
  | Rests z e ↦ absurd (false≢true (rw e at n))
  | Ends o z a e ↦ absurd (false≢true (rw e at n))
  | Goes v z a e ↦ rw e (meaning_outcome r.op x y r.constant r.slot h)
]

pub stop_outcome : (r : Row) (x y : ℕ) (h : Shared) → (effect r x y h).ran ≡ false → is_running h.outcome ≡ true → is_running (effect r x y h).shared.outcome ≡ false
stop_outcome r x y h n on = elim (ways r x y h) [
  | Rests z e ↦ absurd (both_ways _ z on)
  | Ends o z a e ↦ rw e (stops r.op x y r.constant r.slot h o a)
  | Goes v z a e ↦ absurd (true≢false (rw e at n))
]

-- output only grows, and an ended player rests
pub begins_same : (xs : List ℕ) → Begins xs xs
begins_same xs = ([], sym (append-nil xs))

pub begins_trans : (xs ys zs : List ℕ) → Begins xs ys → Begins ys zs → Begins xs zs
begins_trans xs ys zs (a, p) (b, q) = (a ++ b, q ∙ ap (λ l. l ++ b) p ∙ append_assoc xs a b)

out_or : (o : Op) (x y k s : ℕ) (h : Shared) → ((meaning o x y k s h).shared.output ≡ h.output) ⊎ ((meaning o x y k s h).shared.output ≡ h.output ++ (x ∷ []))
out_or o x y k s h = grind arith

pub grows : (r : Row) (x y : ℕ) (h : Shared) → Begins h.output (effect r x y h).shared.output
grows r x y h = elim (ways r x y h) [
  | Rests z e ↦ rw e (begins_same h.output)
  | Ends o z a e ↦ rw e (begins_same h.output)
  | Goes v z a e ↦ rw e (elim (out_or r.op x y r.constant r.slot h) [ inl k ↦ rw k (begins_same h.output) | inr k ↦ (x ∷ [], k) ])
]

pub copy_next : (w : ℕ → Row) (p : Player) → copies (w p.row).op ≡ true → running p ≡ true → next_row w p ≡ suc p.row
unfolding effect
copy_next w p c z = rw (is_copy (w p.row).op c, z)

pub step_rests : (w : ℕ → Row) (q : Player) → running q ≡ false → stepped w q ≡ q
unfolding stepped
step_rests w q z =
    let u = rests (w q.row) (q.numbers (w q.row).a) (q.numbers (w q.row).b) q.shared z in
    let off : writes_now w q ≡ false = rw u (and_right (shape (w q.row).op).d false refl) in
    rw (off, u)

pub step_row : (w : ℕ → Row) (q : Player) → (stepped w q).row ≡ next_row w q
unfolding stepped
step_row w q = refl
