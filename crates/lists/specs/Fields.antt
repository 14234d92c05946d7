-- A list gives the array that holds it back.
use Rattle.std.proofs.Common.{◌≡◌, ℕ, List, length, take, ap₂}
use Rattle.std.proofs.lemmas.List.{length-take-le, take-append-drop}
use Rattle.lists.specs.declared.Few.TheInside.{Inside}
use Rattle.lists.specs.Padding.{padded, IsPadded}

pub counted : {A : Type 0} (n : ℕ) (blank : A) (items : List A) (count : ℕ) → IsPadded n blank items count → length (take count items) ≡ count
counted n blank items count h = length-take-le count items (rw h.whole h.fits)

whole : {A : Type 0} (n : ℕ) (blank : A) (items : List A) (count : ℕ) → IsPadded n blank items count → padded n blank (take count items) ≡ items
whole n blank items count h = rw (counted n blank items count h, ← h.rest) (take-append-drop count items)

pub padded_back : {A : Type 0} (n : ℕ) (blank : A) (l : Inside A n) → IsPadded n blank l.items l.count →
    ◌≡◌ {A = Inside A n} (record { items = padded n blank (take l.count l.items); count = length (take l.count l.items) }) l
padded_back {A} n blank l h = ap₂ (λ (xs : List A) (k : ℕ). let r : Inside A n = record { items = xs; count = k } in r) (whole n blank l.items l.count h) (counted n blank l.items l.count h)
