-- Words of a join: the word of it that stands for a word of one of its programs.
use Rattle.std.specs.Prelude.{◌&&◌, List, eqb, ltb, ℤ}
use Prim.Native.Nat.{ℕ, zero, suc, ◌-◌}
use Rattle.words.specs.Word.{pick}
use Rattle.words.specs.Table.{row_count}
use Rattle.words.specs.Declarations.{is_declaration, declarations_before}
use Rattle.names.specs.Names.{word_of}

-- The declaration with so many before it, among so many rows; 0 where there is none.
unfoldable pub declaration_from : ℕ → List ℤ → ℕ → ℕ
declaration_from zero rows earlier = 0
declaration_from (suc row) rows earlier =
    let rest = declaration_from row rows earlier in
    pick (is_declaration rows row && eqb (declarations_before rows row) earlier) row rest

-- The word of the join that stands for a word of one of its programs, whose row r is row ρ r there: the first S stay.
unfoldable pub moved_name : ℕ → List ℤ → List ℤ → (ℕ → ℕ) → ℕ → ℕ
moved_name S joined rows ρ word = pick (ltb word S) word (word_of S joined (ρ (declaration_from (row_count rows) rows (word - S))))
