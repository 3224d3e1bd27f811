-- Laws of the papers: the table of kinds, and the code's array of it, are what documents 01 and 02 say.
use Rattle.std.specs.Prelude.{◌≡◌, refl, Bool, true, false, ◌&&◌, List, [], ◌∷◌, ℕ, ◌≤◌, ◌<◌, ltb, leb, get_or}
use Rattle.std.proofs.Common.{sym, ap, ◌∙◌, arith, ltb-true}
use Rattle.std.proofs.Math.Decide.{dec_lt}
use Rattle.std.proofs.lemmas.Bool.{lt-leb}
use Rattle.words.specs.Laws.{both}
use Rattle.words.specs.Kinds.{between, KindRow, kinds, kind_in, kind_of, kind_row, expression_fields, statement_fields, mark_fields, definition_fields, member_fields}
use Rattle.words.specs.declared.Kind.TheVariants.{Other}
use Rattle.check_grammar.specs.Grammar.{kind_limit, tabulate, columns, grammar}
use Rattle.check_grammar.specs.GrammarLaws.{kind-beyond, tabulated, grammar-row}
use Rattle.check_grammar.specs.Papers.{KindLine, lines, said_by, said}

-- the one proof over the whole table
whole-table : tabulate (λ number. kind_row (kind_of number)) 0 kind_limit ≡ tabulate said 0 kind_limit
unfolding said said_by lines kind_of kind_in kinds kind_row expression_fields statement_fields mark_fields definition_fields member_fields
whole-table = refl

below : List KindLine → Bool
below [] = true
below (l ∷ ls) = ltb l.most kind_limit && below ls

said-beyond : (number : ℕ) → kind_limit ≤ number → said number ≡ kind_row Other
unfolding said said_by lines below
said-beyond number h = go lines refl
  where
    no-range : (least most : ℕ) → most < number → between least most number ≡ false
    no-range least most less = rw (lt-leb number most less) (fails (leb least number))
      where
        fails : (b : Bool) → (b && false) ≡ false
        fails true = refl
        fails false = refl

    go : (ls : List KindLine) → below ls ≡ true → said_by ls number ≡ kind_row Other
    go [] e = refl
    go (l ∷ ls) e =
        let low = both (ltb l.most kind_limit) (below ls) e in
        let less = ltb-true l.most kind_limit low.0 in
        rw (no-range l.least l.most (omega arith)) (go ls low.1)

-- Of every number, those that are no kind too: the row of its kind is what the papers say.
pub table-says : (number : ℕ) → kind_row (kind_of number) ≡ said number
table-says number = go (dec_lt number kind_limit)
  where
    go : Dec (number < kind_limit) → kind_row (kind_of number) ≡ said number
    go (yes h) =
        sym (tabulated (kind_row Other) (λ (n : ℕ). kind_row (kind_of n)) kind_limit number h)
        ∙ ap (λ (rows : List KindRow). get_or rows number (kind_row Other)) whole-table
        ∙ tabulated (kind_row Other) said kind_limit number h
    go (no h) =
        let past : kind_limit ≤ number = omega (arith, h) in
        ap kind_row (kind-beyond number past) ∙ sym (said-beyond number past)

-- The code's array, row by row.
pub array-says : (number : ℕ) → number < kind_limit → get_or grammar number [] ≡ columns (said number)
array-says number h = grammar-row number h ∙ ap columns (table-says number)
