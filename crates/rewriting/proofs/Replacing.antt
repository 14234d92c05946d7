-- The blocks and temporaries of rows, one row more.
use Rattle.std.proofs.Common.{◌≡◌, ℕ, suc, ◌+◌, ◌≤◌, Bool, true, false, List, [], ◌∷◌, ◌++◌, map, length, sym, refl, ap, ◌∙◌, inl, inr, add-zero, add_assoc, arith}
use lib.ListN.{length-map}
use Rattle.std.proofs.lemmas.List.{append_assoc, length-append, map-append, map_push}
use Rattle.std.proofs.lemmas.Bool.{cases_Bool}
use Rattle.sets.specs.Sets.{has}
use Rattle.rows.specs.declared.Row.{Row}
use Rattle.rows.specs.Rows.{shape, only, Program}
use Rattle.compiling.specs.declared.Place.{Place}
use Rattle.compiling.specs.Working.{Working}
use Rattle.compiling.specs.Blocks.{flat, assembled}
use Rattle.compiling.specs.Spill.{Order}
use Rattle.compiling.specs.Rewrite.{inner, after, spilled_of, replaced, block, blocks, all_replaced}
use Rattle.layout.proofs.Holding.{flat_push}
use Rattle.rewriting.specs.Temporaries.{temporaries, noted, all_noted, rows_with}
use Rattle.rewriting.proofs.Noting.{news, noted_few, after_is, loaded_is, stored_is, name_is, all_noted_is}

spilled_append : (s : Order) (xs ys : List ℕ) → spilled_of s (xs ++ ys) ≡ spilled_of s xs ++ spilled_of s ys
unfolding spilled_of
spilled_append s [] ys = refl
spilled_append s (x ∷ xs) ys =
    let rest = spilled_append s xs ys in
    elim (cases_Bool (has s.out x)) [ inl e ↦ rw (e, rest) | inr e ↦ rw (e, rest) ]

spilled_only : (s : Order) (class : ℕ → ℕ) (used : Bool) (v : ℕ) → map class (spilled_of s (only used v)) ≡ news s class used v
unfolding spilled_of
spilled_only s class true v = elim (cases_Bool (has s.out v)) [ inl e ↦ rw e | inr e ↦ rw e ]
spilled_only s class false v = refl

module _ (s : Order) (class : ℕ → ℕ) where
  pub block_inner : (t : ℕ) (r : Row) → inner s r ≡ true → block s class t r ≡ []
  unfolding block
  block_inner t r e = rw e

  pub block_kept : (t : ℕ) (r : Row) → inner s r ≡ false → block s class t r ≡ rows_with (temporaries s class t r) r
  unfolding block temporaries
  block_kept t r e =
      let sh = shape r.op in
      let tb = after s sh.a r.a t in
      let td = after s sh.b r.b tb in
      rw (e, loaded_is s class r.weight sh.a r.a t, name_is s class sh.a r.a t, after_is s class sh.a r.a t, loaded_is s class r.weight sh.b r.b tb, name_is s class sh.b r.b tb, after_is s class sh.b r.b tb, stored_is s class r.weight sh.d r.d td, name_is s class sh.d r.d td)

  pub replaced_inner : (r : Row) → inner s r ≡ true → replaced s r ≡ []
  unfolding replaced
  replaced_inner r e = rw e

  pub replaced_kept : (t : ℕ) (r : Row) → inner s r ≡ false → map class (replaced s r) ≡ all_noted (temporaries s class t r)
  unfolding replaced
  replaced_kept t r e =
      let ra = only (shape r.op).a r.a in
      let rb = only (shape r.op).b r.b in
      let rd = only (shape r.op).d r.d in
      let na = news s class (shape r.op).a r.a in
      let nb = news s class (shape r.op).b r.b in
      let nd = news s class (shape r.op).d r.d in
      let parts : map class (spilled_of s ((ra ++ rb) ++ rd)) ≡ (map class (spilled_of s ra) ++ map class (spilled_of s rb)) ++ map class (spilled_of s rd) = simp (spilled_append, map-append) in
      let each : (map class (spilled_of s ra) ++ map class (spilled_of s rb)) ++ map class (spilled_of s rd) ≡ (na ++ nb) ++ nd = rw (spilled_only s class (shape r.op).a r.a, spilled_only s class (shape r.op).b r.b, spilled_only s class (shape r.op).d r.d) refl in
      rw e (parts ∙ each ∙ append_assoc na nb nd ∙ sym (all_noted_is s class t r))

  pub replaced_few : (r : Row) → length (replaced s r) ≤ 3
  replaced_few r =
      elim (cases_Bool (inner s r)) [
        | inl e ↦ rw (replaced_inner r e) (omega arith)
        | inr e ↦
            let t = temporaries s class 0 r in
            let n : length (map class (replaced s r)) ≡ length (noted t.a) + (length (noted t.b) + length (noted t.d)) =
            ap length (replaced_kept 0 r e) ∙ length-append (noted t.a) (noted t.b ++ noted t.d) ∙ ap (λ k. length (noted t.a) + k) (length-append (noted t.b) (noted t.d)) in
            omega (arith, n, length-map (replaced s r) class, noted_few t.a, noted_few t.b, noted_few t.d)
      ]

  pub all_push : (rs : List Row) (r : Row) → all_replaced s (rs ++ r ∷ []) ≡ all_replaced s rs ++ replaced s r
  unfolding all_replaced
  all_push rs r = ap flat (map_push (replaced s) rs r) ∙ flat_push (map (replaced s) rs) (replaced s r)

  pub blocks_push : (t : ℕ) (rs : List Row) (r : Row) → blocks s class t (rs ++ r ∷ []) ≡ blocks s class t rs ++ block s class (t + length (all_replaced s rs)) r ∷ []
  unfolding blocks all_replaced flat
  blocks_push t [] r = rw add-zero
  blocks_push t (x ∷ xs) r =
      let n = length-append (replaced s x) (flat (map (replaced s) xs)) in
      ap (λ (l : List (List Row)). block s class t x ∷ l) (blocks_push (t + length (replaced s x)) xs r ∙ rw (n, add_assoc) refl)

  pub blocks_length : (t : ℕ) (rs : List Row) → length (blocks s class t rs) ≡ length rs
  unfolding blocks
  blocks_length t [] = refl
  blocks_length t (r ∷ rs) = ap suc (blocks_length (t + length (replaced s r)) rs)

pub assembled_length : (bs : List (List Row)) → length (assembled bs) ≡ length (flat bs)
unfolding assembled
assembled_length bs = length-map (flat bs) _

pub working_same : (p : Program) (rs rs' : List Row) (cs cs' : List ℕ) (n n' k : ℕ) (ps ps' : List Place) → rs ≡ rs' → cs ≡ cs' → n ≡ n' → ps ≡ ps' →
    ◌≡◌ {A = Working} (record { source = p; rows = rs; classes = cs; rounds = n; slots = k; places = ps }) (record { source = p; rows = rs'; classes = cs'; rounds = n'; slots = k; places = ps' })
working_same p rs rs' cs cs' n n' k ps ps' e f g h = cc
