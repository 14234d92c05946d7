use Rattle.std.proofs.Common.{rules, arith, ◌≡◌, ◌-◌, ◌∙◌, ap, ℕ, List, Option, unwrap_or, length, take, drop}
use borrow.Author.Tests.{tests}
use Rattle.std.specs.List.{position}
use Rattle.std.proofs.lemmas.List.{take_rest}
use Rattle.std.proofs.lemmas.Iterator.{YieldsList-from_slice}
use Rattle.std.proofs.lemmas.Iterator.Search.{position_from_yields_List}
use Rattle.hexwords.specs.Hex.{unspaced, up_to_space, from_space}
use Rattle.hexwords.proofs.Words.{is_other, is_space, unspaced_found, up_to_found, from_found}
use Rattle.hexwords.proofs.split_word.Goals as goal

-- what stands from the place of the first other byte on
rest : (line : List ℕ) (start : ℕ) (found : Option ℕ) → start ≡ unwrap_or found (length line) → found ≡ position is_other line → take (length line - start) (drop start line) ≡ unspaced line
rest line start found e f =
    take_rest line start ∙ (ap (λ (n : ℕ). drop n line) (e ∙ ap (λ (o : Option ℕ). unwrap_or o (length line)) f) ∙ unspaced_found line)

pub returns-clause-word : goal.returns-clause-word
returns-clause-word c =
    let line = c.args.line.now in
    let start = c.unwrap_or.result in
    let behind = take (length line - start) (drop start line) in
    let other : c.position-start.result ≡ position is_other line = position_from_yields_List is_other _ _ _ c.position-start.ensures.ran (YieldsList-from_slice line c.iter.ensures.rest) (λ x b q k. search (rules, tests)) in
    let space : c.position-end.result ≡ position is_space behind = position_from_yields_List is_space _ _ _ c.position-end.ensures.ran (YieldsList-from_slice behind c.iter-2.ensures.rest) (λ x b q k. search (rules, tests)) in
    c.split_at.ensures.front
    ∙ (ap (λ (n : ℕ). take n behind) (omega (arith, c.unwrap_or-2.ensures ∙ ap (λ (o : Option ℕ). unwrap_or o (length behind)) space))
    ∙ (up_to_found behind ∙ ap up_to_space (rest line start _ c.unwrap_or.ensures other)))

pub returns-clause-behind : goal.returns-clause-behind
returns-clause-behind c =
    let line = c.args.line.now in
    let start = c.unwrap_or.result in
    let behind = take (length line - start) (drop start line) in
    let other : c.position-start.result ≡ position is_other line = position_from_yields_List is_other _ _ _ c.position-start.ensures.ran (YieldsList-from_slice line c.iter.ensures.rest) (λ x b q k. search (rules, tests)) in
    let space : c.position-end.result ≡ position is_space behind = position_from_yields_List is_space _ _ _ c.position-end.ensures.ran (YieldsList-from_slice behind c.iter-2.ensures.rest) (λ x b q k. search (rules, tests)) in
    c.split_at.ensures.back
    ∙ (ap (λ (n : ℕ). drop n behind) (omega (arith, c.unwrap_or-2.ensures ∙ ap (λ (o : Option ℕ). unwrap_or o (length behind)) space))
    ∙ (from_found behind ∙ ap from_space (rest line start _ c.unwrap_or.ensures other)))
