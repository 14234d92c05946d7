-- Pages that note classes, and the temporaries of a row.
use Rattle.std.proofs.Common.{◌≡◌, ℕ, ◌+◌, ◌≤◌, Bool, true, false, cond, Some, None, Option, List, [], ◌∷◌, ◌++◌, length, take, refl, ap, ◌∙◌, inl, inr, arith}
use Rattle.std.proofs.lemmas.List.{append_assoc, append-nil, length-append, take_all}
use Rattle.std.proofs.lemmas.Bool.{cases_Bool}
use Rattle.sets.specs.Sets.{has}
use Rattle.rows.specs.declared.Row.{Row}
use Rattle.rows.specs.Rows.{shape, used}
use Rattle.compiling.specs.Spill.{Order, slot_in}
use Rattle.compiling.specs.Rewrite.{goes, after, load_row, store_row}
use Rattle.layout.proofs.Lists.{front_append}
use Rattle.rewriting.specs.declared.page.Page.{Page}
use Rattle.rewriting.specs.declared.temporary.Temporary.{Temporary}
use Rattle.rewriting.specs.Temporaries.{temporary, temporaries, noted, all_noted, loaded, stored, name_by, Notes}

pub nothing_more : {A : Type 0} (m : ℕ) (xs : List A) → length xs ≤ m → xs ≡ take m (xs ++ [])
nothing_more m xs l = rw (append-nil, take_all m xs l)

-- what was pushed in turn, in one
pub pushed_more : {A : Type 0} (m : ℕ) (xs ys zs : List A) {us vs : List A} → us ≡ take m (xs ++ ys) → vs ≡ take m (us ++ zs) → vs ≡ take m (xs ++ (ys ++ zs))
pushed_more m xs ys zs e f = f ∙ ap (λ l. take m (l ++ zs)) e ∙ front_append m (xs ++ ys) zs ∙ ap (take m) (append_assoc xs ys zs)

pub pushed_four : {A : Type 0} (m : ℕ) (xs a b k d : List A) {l₁ l₂ l₃ l₄ : List A} → l₁ ≡ take m (xs ++ a) → l₂ ≡ take m (l₁ ++ b) → l₃ ≡ take m (l₂ ++ k) → l₄ ≡ take m (l₃ ++ d) → l₄ ≡ take m (xs ++ (a ++ (b ++ (k ++ d))))
pushed_four m xs a b k d e f g h =
    let all = pushed_more m xs ((a ++ b) ++ k) d (pushed_more m xs (a ++ b) k (pushed_more m xs a b e f) g) h in
    let regrouped : ((a ++ b) ++ k) ++ d ≡ a ++ (b ++ (k ++ d)) = simp append_assoc in
    all ∙ ap (λ l. take m (xs ++ l)) regrouped

pub notes_none : (p : Page) → Notes p p []
notes_none p = record { rows = refl; starts = refl; classes = nothing_more 448 p.classes p.few; next = omega arith }

pub notes_notes : (p q r : Page) (cs ds : List ℕ) → Notes p q cs → Notes q r ds → Notes p r (cs ++ ds)
notes_notes p q r cs ds g h = record {
  rows = h.rows ∙ g.rows;
  starts = h.starts ∙ g.starts;
  classes = pushed_more 448 p.classes cs ds g.classes h.classes;
  next = omega (arith, length-append cs ds, g.next, h.next);
}

pub noted_few : (t : Option Temporary) → length (noted t) ≤ 1
noted_few None = omega arith
noted_few (Some t) = omega arith

-- the class of the temporary that stands for v
abbrev pub news : Order → (ℕ → ℕ) → Bool → ℕ → List ℕ
news s class b v = cond (goes s b v) (class v ∷ []) []

module _ (s : Order) (class : ℕ → ℕ) where
  pub noted_is : (b : Bool) (v n : ℕ) → noted (temporary s class (used b v) n) ≡ news s class b v
  unfolding temporary
  noted_is true v n = elim (cases_Bool (has s.out v)) [ inl e ↦ rw e | inr e ↦ rw e ]
  noted_is false v n = refl

  pub after_is : (b : Bool) (v n : ℕ) → n + length (noted (temporary s class (used b v) n)) ≡ after s b v n
  unfolding temporary
  after_is true v n = elim (cases_Bool (has s.out v)) [ inl e ↦ rw e (omega arith) | inr e ↦ rw e (omega arith) ]
  after_is false v n = omega arith

  pub loaded_is : (weight : ℕ) (b : Bool) (v n : ℕ) → loaded weight (temporary s class (used b v) n) ≡ cond (goes s b v) (load_row weight (class v) n (slot_in s v) ∷ []) []
  unfolding temporary
  loaded_is weight true v n = elim (cases_Bool (has s.out v)) [ inl e ↦ rw e | inr e ↦ rw e ]
  loaded_is weight false v n = refl

  pub stored_is : (weight : ℕ) (b : Bool) (v n : ℕ) → stored weight (temporary s class (used b v) n) ≡ cond (goes s b v) (store_row weight (class v) n (slot_in s v) ∷ []) []
  unfolding temporary
  stored_is weight true v n = elim (cases_Bool (has s.out v)) [ inl e ↦ rw e | inr e ↦ rw e ]
  stored_is weight false v n = refl

  pub name_is : (b : Bool) (v n : ℕ) → name_by v (temporary s class (used b v) n) ≡ cond (goes s b v) n v
  unfolding temporary
  name_is true v n = elim (cases_Bool (has s.out v)) [ inl e ↦ rw e | inr e ↦ rw e ]
  name_is false v n = refl

  -- the classes of the temporaries of a row, wherever they begin
  pub all_noted_is : (n : ℕ) (r : Row) → all_noted (temporaries s class n r) ≡ news s class (shape r.op).a r.a ++ (news s class (shape r.op).b r.b ++ news s class (shape r.op).d r.d)
  unfolding temporaries
  all_noted_is n r =
      let sh = shape r.op in
      let na = n + length (noted (temporary s class (used sh.a r.a) n)) in
      rw (noted_is sh.d r.d (na + length (noted (temporary s class (used sh.b r.b) na))), noted_is sh.b r.b na, noted_is sh.a r.a n)
