use Rattle.std.proofs.Common.{◌≡◌, ℕ, ◌+◌, ◌-◌, ◌<◌, ◌≤◌, List, [], ◌∷◌, ◌++◌, length, drop, set, decimal, refl, ap, ◌∙◌, arith, length-set, rules}
use Rattle.std.proofs.lemmas.List.{drop-set, length-drop, take_all}
use Rattle.compiling.specs.declared.Place.{Place}
use Rattle.compiling.specs.Working.{number_of}
use Rattle.printing.specs.Texts.{home_letter, mark_letter, place_text}
use Rattle.printing.proofs.PlaceTold.tell.Goals as goal

-- a byte put before place i
before : (xs : List ℕ) (i y : ℕ) → 0 < i → i ≤ length xs → drop (i - 1) (set xs (i - 1) y) ≡ y ∷ drop i xs
before xs i y some long =
    let e : i - 1 + 1 ≡ i = omega arith in
    drop-set xs (i - 1) y (omega arith) ∙ ap (λ n. y ∷ drop n xs) e

parts : (p : Place) (home number mark : ℕ) → home ≡ home_letter p.home → number ≡ number_of p.home → mark ≡ mark_letter p.hoped → (home ∷ (decimal number ++ (64 ∷ (decimal p.round ++ (mark ∷ []))))) ≡ place_text p
unfolding place_text
parts p home number mark h n m = rw (h, n, m) refl

pub returns : goal.returns
returns c =
    let round = c.put_item-round in
    let number = c.put_item-number in
    let at = before round.new.text round.result 64 (omega arith) (omega arith) ∙ ap (λ ds. 64 ∷ ds) round.ensures.written in
    let home = before number.new.text number.result c.home_letter.result (omega arith) (omega arith) ∙ ap (λ ds. c.home_letter.result ∷ ds) (number.ensures.written ∙ ap (λ ds. decimal c.number.result ++ ds) at) in
    let told = home ∙ parts c.args.self c.home_letter.result c.number.result c.mark_letter.result c.home_letter.ensures c.number.ensures c.mark_letter.ensures in
    let text = set number.new.text (number.result - 1) c.home_letter.result in
    let cut = take_all (13 - (number.result - 1)) (drop (number.result - 1) text) (omega (arith, length-drop (number.result - 1) text, length-set number.new.text (number.result - 1) c.home_letter.result)) in
    search (rules, cut ∙ told)
