-- The set of the variables in the fields of a row.
use Rattle.std.proofs.Common.{◌≡◌, ℕ, Bool, true, false, cond, ltb, Option, List, [], ◌++◌, sym, refl}
use Rattle.std.specs.Option.{option_map_or}
use Rattle.sets.specs.Sets.{union, single, when}
use Rattle.sets.specs.declared.NodeSet.{NodeSet}
use Rattle.sets.specs.Words.{joined, members, empty_set}
use Rattle.rows.specs.declared.Row.{Row}
use Rattle.rows.specs.Rows.{set_of, only, used, shape, reads, writes}

pub members_empty : members empty_set ≡ 0
unfolding joined
members_empty = refl

pub set_none : set_of [] ≡ 0
unfolding set_of
set_none = refl

-- a set with the variable of a field, if there is one
abbrev pub with_field : ℕ → Option ℕ → ℕ
with_field set variable = option_map_or (λ v. union set (when (ltb v 448) (single v))) variable set

-- one field more
pub set_only : (used : Bool) (v : ℕ) (vs : List ℕ) → set_of (only used v ++ vs) ≡ cond used (union (set_of vs) (when (ltb v 448) (single v))) (set_of vs)
unfolding set_of
set_only true v vs = refl
set_only false v vs = refl

pub set_only_last : (used : Bool) (v : ℕ) → set_of (only used v) ≡ cond used (union 0 (when (ltb v 448) (single v))) 0
unfolding set_of
set_only_last true v = refl
set_only_last false v = refl

field_more : (b : Bool) (v : ℕ) (vs : List ℕ) → with_field (set_of vs) (used b v) ≡ set_of (only b v ++ vs)
field_more true v vs = sym (set_only true v vs)
field_more false v vs = sym (set_only false v vs)

field_alone : (b : Bool) (v : ℕ) → with_field 0 (used b v) ≡ set_of (only b v)
field_alone true v = sym (set_only_last true v)
field_alone false v = sym (set_only_last false v)

pub wrote : (r : Row) (none : NodeSet) → none ≡ empty_set → with_field (members none) (used (shape r.op).d r.d) ≡ set_of (writes r)
wrote r none z = rw (z, members_empty) (field_alone (shape r.op).d r.d)

pub read : (r : Row) (none : NodeSet) → none ≡ empty_set → with_field (with_field (members none) (used (shape r.op).b r.b)) (used (shape r.op).a r.a) ≡ set_of (reads r)
read r none z = rw (z, members_empty, field_alone (shape r.op).b r.b) (field_more (shape r.op).a r.a (only (shape r.op).b r.b))
