use Rattle.std.proofs.Common.{rules, ◌≡◌, ℕ, List, ◌<◌, length, get_or, map, drop, Some, None, Option, vec_items, refl, sym, ap, ◌∙◌, arith}
use borrow.Author.Tests.{tests}
use Rattle.std.specs.List.{slice_split}
use Rattle.std.specs.Iterator.{Yields}
use Rattle.std.proofs.lemmas.List.{length_push, drop_all}
use Rattle.std.proofs.lemmas.Iterator.{YieldsList}
use Rattle.std.proofs.lemmas.Iterator.Consumers.{YieldsList-at, YieldsList-turn, YieldsList-end}
use Rattle.std.proofs.lemmas.Iterator.Splits.{YieldsList-from_slice_split}
use Rattle.hexwords.proofs.Spelling.{onto, onto_none}
use Rattle.numerals.specs.Numerals.{numbers_of}
use Rattle.numerals.proofs.Items.{is_comma, items_parts, numbers_more, numbers_stop, numbers_end}
use Rattle.numerals.proofs.read_items.Goals as goal

pub loop-item-init : goal.loop-item-init
loop-item-init c =
    let items = slice_split is_comma c.args.word.now in
    ap (λ (xs : List ℕ). onto xs (numbers_of items)) c.clear.ensures.items ∙ onto_none (numbers_of items)

-- a step and the end of a walk over parts, with the walk in front of what it yields
turn : {S A B : Type 0} {steps : S → Option A → S → Type 0} {v : A → B} {s : S} {all : List B} (xs : List A) {t : S} → Yields steps s xs t → YieldsList steps v s all → {r : Option A} {u : S} (x : A) → r ≡ Some x → steps t r u → (length xs < length all) × (v x ≡ get_or all (length xs) (v x))
turn xs y e x is step = YieldsList-turn e xs _ y _ _ x is step

end : {S A B : Type 0} {steps : S → Option A → S → Type 0} {v : A → B} {s : S} {all : List B} (xs : List A) {t : S} → Yields steps s xs t → YieldsList steps v s all → {r : Option A} {u : S} → r ≡ None → steps t r u → (map v xs ≡ all) × (length xs ≡ length all)
end xs y e is step = YieldsList-end e xs _ y _ _ is step

pub returns-in_default : goal.returns-in_default
returns-in_default c =
    let w = c.args.word.now in
    let items = slice_split is_comma w in
    let next = turn c.loop-item.yielded c.loop-item.yielded_by (YieldsList-at c.into_iter-item-iterator.ensures.into_iter_gives (YieldsList-from_slice_split _ is_comma w c.split-item-items.ensures.rest c.split-item-items.ensures.done c.split-item-items.ensures.closure (λ x r q k. search (rules, tests)))) c.in-Some.item c.in-Some.is c.next.ensures.steps in
    let list =
    sym (numbers_stop (vec_items c.loop-item.numbers) items (length c.loop-item.yielded) c.in-Some.item.now next (search rules))
    ∙ (c.loop-item.invariant ∙ ap numbers_of (sym (items_parts w))) in
    ((refl, λ _. tt, tt), record { after_borrow = tt; list = list })

pub loop-item-preserved : goal.loop-item-preserved
loop-item-preserved c =
    let w = c.args.word.now in
    let items = slice_split is_comma w in
    let next = turn c.loop-item.yielded c.loop-item.yielded_by (YieldsList-at c.into_iter-item-iterator.ensures.into_iter_gives (YieldsList-from_slice_split _ is_comma w c.split-item-items.ensures.rest c.split-item-items.ensures.done c.split-item-items.ensures.closure (λ x r q k. search (rules, tests)))) c.in-Some.item c.in-Some.is c.next.ensures.steps in
    (λ k. onto (c.in_ok-push.ensures.items k) (numbers_of (drop (length_push c.loop-item.yielded c.in-Some.item k) items)))
    ∙ (sym (numbers_more (vec_items c.loop-item.numbers) items (length c.loop-item.yielded) c.in-Some.item.now _ next (search rules)) ∙ c.loop-item.invariant)

pub returns : goal.returns
returns c =
    let w = c.args.word.now in
    let xs = vec_items c.loop-item.numbers in
    let items = slice_split is_comma w in
    let all = end c.loop-item.yielded c.loop-item.yielded_by (YieldsList-at c.into_iter-item-iterator.ensures.into_iter_gives (YieldsList-from_slice_split _ is_comma w c.split-item-items.ensures.rest c.split-item-items.ensures.done c.split-item-items.ensures.closure (λ x r q k. search (rules, tests)))) c.in-None.is c.next.ensures.steps in
    let list =
    ap (λ (ys : List ℕ). Some ys) c.as_slice.ensures.value
    ∙ (sym (ap (λ (rest : List (List ℕ)). onto xs (numbers_of rest)) (drop_all (length c.loop-item.yielded) items (omega (arith, all.1))) ∙ numbers_end xs)
    ∙ (c.loop-item.invariant ∙ ap numbers_of (sym (items_parts w)))) in
    ((refl, λ _. tt, c.as_slice.ensures.value), record { after_borrow = tt; list = list })
