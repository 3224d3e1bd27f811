-- Laws of the grammar: what holds of every kind is tested over the table of kinds.
use Rattle.std.specs.Prelude.{◌≡◌, refl, Bool, true, false, not, List, [], ◌∷◌, ℕ, zero, suc, ◌+◌, ◌≤◌, ◌<◌, ltb, leb, ℤ, get_or}
use Rattle.std.proofs.Common.{ap, ◌∙◌, arith, ltb-true, ne_eqb}
use Rattle.std.proofs.lemmas.Bool.{not-true}
use Rattle.words.specs.Word.{pick}
use Rattle.words.specs.Table.{number_at}
use Rattle.words.specs.Laws.{both}
use Rattle.words.specs.Kinds.{kinds, kind_in, kind_of, unused, variable, declared_number, Forms, in_both, in_source, in_kernel, in_neither, stands_in, kind_row, expression_fields, statement_fields, mark_fields, definition_fields, member_fields, sort_in, sort_of, sort_at, between, in_language, is_link}
use Rattle.words.specs.KindLaws.{every_line, every-number}
use Rattle.words.specs.declared.Form.TheVariants.{Source, Kernel}
use Rattle.words.specs.declared.Kind.{Kind}
use Rattle.words.specs.declared.Kind.TheVariants.{Other}
use Rattle.words.specs.Links.{link}
use Rattle.check_grammar.specs.Grammar.{kind_limit, forms_number, forms_of, columns, tabulate, grammar}

-- a property that no sort of the table's column has, and a field of no kind has not, no number has
pub no-kind-has : (property : ℕ → Bool) (field : ℕ) → every_line (λ number kind. not (property (sort_in kind field))) kinds ≡ true → not (property (sort_in Other field)) ≡ true
    → (number : ℕ) → property (sort_of number field) ≡ false
unfolding sort_of
no-kind-has property field table none number =
    not-true _ (every-number (λ number kind. not (property (sort_in kind field))) table (λ number. none) number)

-- what a row is, is no link and no number
pub kind-no-link : (number : ℕ) → is_link (sort_of number 0) ≡ false
unfolding every_line kinds sort_in kind_row expression_fields statement_fields mark_fields definition_fields member_fields is_link
kind-no-link number = no-kind-has is_link 0 refl refl number

pub kind-no-number : (number : ℕ) → between variable declared_number (sort_of number 0) ≡ false
unfolding every_line kinds sort_in kind_row expression_fields statement_fields mark_fields definition_fields member_fields
kind-no-number number = no-kind-has (between variable declared_number) 0 refl refl number

pub kind-links-none : (rows : List ℤ) (row : ℕ) → link rows row 0 ≡ 0
unfolding link sort_at
kind-links-none rows row = rw (kind-no-link (number_at rows row 0))

-- a word that is 0 links nothing, whatever its sort
pub zero-links-none : (rows : List ℤ) (row field : ℕ) → number_at rows row field ≡ 0 → link rows row field ≡ 0
unfolding link
zero-links-none rows row field z = rw z (go (is_link (sort_at rows row field)))
  where
    go : (links : Bool) → ◌≡◌ {A = ℕ} (pick links 0 0) 0
    go true = refl
    go false = refl

-- ---- numbers without a kind

pub kind-beyond : (number : ℕ) → kind_limit ≤ number → kind_of number ≡ Other
unfolding kind_of kind_in kinds every_line
kind-beyond number h = go kinds refl
  where
    go : (ks : List (ℕ × Kind)) → every_line (λ n kind. ltb n kind_limit) ks ≡ true → kind_in ks number ≡ Other
    go [] e = refl
    go (k ∷ ks) e =
        let low = both (ltb k.0 kind_limit) (every_line (λ n kind. ltb n kind_limit) ks) e in
        rw (ne_eqb number k.0 (λ q. let l = ltb-true k.0 kind_limit low.0 in omega arith)) (go ks low.1)

-- ---- the table by number

pub tabulated : {A : Type 0} (default : A) (entry : ℕ → A) (count number : ℕ) → number < count → get_or (tabulate entry 0 count) number default ≡ entry number
tabulated default entry count number h = go 0 count number h ∙ ap entry (let e : 0 + number ≡ number = omega arith in e)
  where
    go : (from count number : ℕ) → number < count → get_or (tabulate entry from count) number default ≡ entry (from + number)
    go from zero number h = absurd (omega arith)
    go from (suc count) zero h = ap entry (let e : from ≡ from + 0 = omega arith in e)
    go from (suc count) (suc number) h =
        go (suc from) count number (omega arith) ∙ ap entry (let e : suc from + number ≡ from + suc number = omega arith in e)

pub grammar-row : (number : ℕ) → number < kind_limit → get_or grammar number [] ≡ columns (kind_row (kind_of number))
unfolding grammar
grammar-row number h = tabulated [] (λ (n : ℕ). columns (kind_row (kind_of n))) kind_limit number h

pub grammar-sort : (number field : ℕ) → number < kind_limit → field < 6 → get_or (get_or grammar number []) field 0 ≡ sort_of number field
unfolding sort_of sort_in
grammar-sort number field h f = rw (grammar-row number h) (go field f)
  where
    go : (field : ℕ) → field < 6 → get_or (columns (kind_row (kind_of number))) field 0 ≡ sort_in (kind_of number) field
    go zero f = refl
    go (suc zero) f = refl
    go (suc (suc zero)) f = refl
    go (suc (suc (suc zero))) f = refl
    go (suc (suc (suc (suc zero)))) f = refl
    go (suc (suc (suc (suc (suc zero))))) f = refl
    go (suc (suc (suc (suc (suc (suc field)))))) f = absurd (omega arith)

pub grammar-forms : (number : ℕ) → number < kind_limit → get_or (get_or grammar number []) 6 0 ≡ forms_of number
unfolding forms_of
grammar-forms number h = rw (grammar-row number h) refl

-- beyond the table every field is unused, and no form has the kind
pub sort-beyond : (number field : ℕ) → kind_limit ≤ number → field < 6 → sort_of number field ≡ unused
unfolding sort_of sort_in kind_row
sort-beyond number field h f = rw (kind-beyond number h) (go field f)
  where
    go : (field : ℕ) → field < 6 → sort_in Other field ≡ unused
    go zero f = refl
    go (suc zero) f = refl
    go (suc (suc zero)) f = refl
    go (suc (suc (suc zero))) f = refl
    go (suc (suc (suc (suc zero)))) f = refl
    go (suc (suc (suc (suc (suc zero))))) f = refl
    go (suc (suc (suc (suc (suc (suc field)))))) f = absurd (omega arith)

pub forms-beyond : (number : ℕ) → kind_limit ≤ number → forms_of number ≡ 0
unfolding forms_of kind_row
forms-beyond number h = rw (kind-beyond number h)

-- the source stands among forms 1 and 2, the kernel among 2 and 3
pub source-forms : (number : ℕ) → between 1 2 (forms_of number) ≡ in_language Source number
unfolding forms_of in_language
source-forms number = go (kind_row (kind_of number)).forms
  where
    go : (forms : Forms) → between 1 2 (forms_number forms) ≡ stands_in forms Source
    go in_both = refl
    go in_source = refl
    go in_kernel = refl
    go in_neither = refl

pub kernel-forms : (number : ℕ) → leb 2 (forms_of number) ≡ in_language Kernel number
unfolding forms_of in_language
kernel-forms number = go (kind_row (kind_of number)).forms
  where
    go : (forms : Forms) → leb 2 (forms_number forms) ≡ stands_in forms Kernel
    go in_both = refl
    go in_source = refl
    go in_kernel = refl
    go in_neither = refl
