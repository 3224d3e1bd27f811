-- Tables: the page of every legal kernel table is scanned to its end, and its rows are the table's.
use Rattle.std.specs.Prelude.{◌≡◌, true, ◌⊎◌, ltb, ℤ, pos, get_or, Ok, Some}
use Rattle.std.proofs.Math.Path.{refl, sym, ap, ap₂}
use Rattle.std.proofs.Common.{◌∙◌, inl, inr, ⊎_elim, arith, ltb-true, ltb-false}
use mathlib.Core.List.{List, [], ◌∷◌}
use Prim.Native.Nat.{ℕ, suc, ◌+◌, ◌*◌, ◌-◌, ◌^◌, ◌≤◌, ◌<◌}
use Rattle.std.specs.Int.Signed.{mag}
use Rattle.std.proofs.Math.ListN.{length}
use Rattle.words.specs.Table.{row_count}
use Rattle.words.specs.Layout.{layout_of, store_size, header_store, declared_of, temporaries_of}
use Rattle.words.specs.Laws.{by_cases, header_fits-facts, count_fits-facts}
use Rattle.words.specs.declared.Form.TheVariants.{Kernel}
use Rattle.language.specs.Trees.{Expression, constant, read, minus, binary, call, variable, element, no_more, Items, and, assign, comma, compound, conditional, not, or, postfix, prefix}
use Rattle.language.specs.Program.{contents}
use Rattle.check_fields.specs.Fields.{bounds_of}
use Rattle.check_kernel.specs.Legal.{Legal}
use Rattle.accepted.specs.NamedWords.{NamesVariable}
use Rattle.accepted_kernel.proofs.Kernel.{legal-form, legal-rows}
use Rattle.page.specs.declared.Sizes.{Sizes}
use Rattle.page.specs.Lines.{PageLine, parameter, last_parameter, Indented, indented, items_lines, plain, read_lines}
use Rattle.page.proofs.LinesLaws.{lines-read-back}
use Rattle.page.specs.Page.{first_temporary, lines_bytes, page_bytes}
use Rattle.page.proofs.Fits.{fits-constant, fits-variable, value-atom, value-element, value-minus, value-binary, value-call, fits-empty, fits-abort, fits-goto, fits-label, fits-store, fits-put, fits-return, fits-opens, fits-while, fits-if, fits-turns, fits-closes, fits-call, fits-argument, fits-last-argument, fits-function, fits-parameters, fits-parameter, fits-last-parameter, all_none, all_more}
use Rattle.page.proofs.Fits as page-fits
use Rattle.page.specs.Tables.{sizes_of, table_lines, table_page}
use Rattle.page_tables.specs.TableLaws.{lines_fit, lines-of-rows, page-columns}
use Rattle.page_words.specs.Texts.{AtomFits, NameFits, ValueFits, LineFits}
use Rattle.page_words.specs.Trees.{Within, place_tree, atom_tree, value_tree, line_tree}
use Rattle.page_words.specs.declared.Names.{Names}
use Rattle.page_words.specs.declared.PageAtom.{PageAtom}
use Rattle.page_words.specs.declared.PageAtom.TheVariants.{Constant, Variable, Declared, Temporary}
use Rattle.page_words.specs.declared.Value.{Value}
use Rattle.page_words.specs.declared.Value.TheVariants.{Single, Element, Minus, Binary, Call}
use Rattle.page_words.specs.declared.LineContent.{LineContent}
use Rattle.page_words.specs.declared.LineContent.TheVariants.{Empty, Abort, Goto, Label, Store, Put, Opens, While, If, Turns, Closes, Return, OpensCall, Argument, LastArgument, OpensFunction, OpensParameters, Parameter, LastParameter}
use Rattle.page_blocks.specs.Blocks.{outside, trees, levels, balanced}
use Rattle.page_blocks.proofs.BlockLaws.{IsProgram, balanced-program, read-balanced}
use Rattle.page_blocks.specs.Scans.{scan, names_of}
use Rattle.page_blocks.specs.LinesFit.{lines_rows, AllFit}
use Rattle.page_blocks.proofs.ScanComplete.{scan-complete}
use Rattle.page_blocks.proofs.RowLaws.{program-rows}

-- ---- the line that a line of the page is

module _ (names : Names) (sizes : Sizes) (within : Within sizes names) where
  -- The variables, and the declared words and temporaries behind the store.
  abbrev Named : ℕ → Type 0
  Named i = (i < names.variables) ⊎ ((sizes.store ≤ i) × (i < sizes.store + (names.declared + names.temporaries)))

  record IsAtom (e : Expression) : Type 0 where
    found : PageAtom
    tree : atom_tree sizes found ≡ e
    fits : AtomFits names found

  record IsName (i : ℕ) : Type 0 where
    found : PageAtom
    tree : place_tree sizes found ≡ variable i
    reads : atom_tree sizes found ≡ read (variable i)
    fits : NameFits names found
    atom_fits : AtomFits names found

  name-of : (i : ℕ) → Named i → IsName i
  name-of i (inl h) = record { found = Variable i; tree = refl; reads = refl; fits = h; atom_fits = h }
  name-of i (inr h) =
      let low = h.0 in
      let high = h.1 in
      by_cases (ltb i (first_temporary sizes))
      (λ t.
      let below : i < first_temporary sizes = ltb-true i (first_temporary sizes) t in
      let back : sizes.store + (i - sizes.store) ≡ i = omega arith in
      let less : i - sizes.store < names.declared = omega (arith, within.same_declared) in
      record { found = Declared (i - sizes.store); tree = ap variable back; reads = ap (λ n. read (variable n)) back; fits = less; atom_fits = less })
      (λ t.
      let first : first_temporary sizes ≤ i = ltb-false i (first_temporary sizes) t in
      let back : first_temporary sizes + (i - first_temporary sizes) ≡ i = omega arith in
      let less : i - first_temporary sizes < names.temporaries = omega (arith, within.same_declared) in
      record { found = Temporary (i - first_temporary sizes); tree = ap variable back; reads = ap (λ n. read (variable n)) back; fits = less; atom_fits = less })

  atom-of : (e : Expression) → page-fits.AtomFits Named names.arrays e → IsAtom e
  atom-of (constant v) (fits-constant h) = record { found = Constant v; tree = refl; fits = h }
  atom-of (read (variable i)) (fits-variable h) = let n = name-of i h in record { found = n.found; tree = n.reads; fits = n.atom_fits }
  atom-of (read (element _ _)) x5 = elim x5 [ ]
  atom-of (minus _) x3 = elim x3 [ ]
  atom-of (not _) x4 = elim x4 [ ]
  atom-of (binary _ _ _) x7 = elim x7 [ ]
  atom-of (and _ _) x7 = elim x7 [ ]
  atom-of (or _ _) x8 = elim x8 [ ]
  atom-of (comma _ _) x9 = elim x9 [ ]
  atom-of (conditional _ _ _) x11 = elim x11 [ ]
  atom-of (assign _ _) x11 = elim x11 [ ]
  atom-of (compound _ _ _) x13 = elim x13 [ ]
  atom-of (prefix _ _) x13 = elim x13 [ ]
  atom-of (postfix _ _) x14 = elim x14 [ ]
  atom-of (call _ _) x15 = elim x15 [ ]

  record IsValue (e : Expression) : Type 0 where
    found : Value
    tree : value_tree sizes found ≡ e
    fits : ValueFits names found

  value-of : (e : Expression) → page-fits.ValueFits Named names.arrays e → IsValue e
  value-of e (value-atom h) = let a = atom-of e h in record { found = Single a.found; tree = a.tree; fits = a.fits }
  value-of (read (element array e)) (value-element b h) = let a = atom-of e h in record { found = Element array a.found; tree = ap (λ x. read (element array x)) a.tree; fits = (b, a.fits) }
  value-of (minus e) (value-minus h) = let a = atom-of e h in record { found = Minus a.found; tree = ap minus a.tree; fits = a.fits }
  value-of (binary o x y) (value-binary h k) =
      let a = atom-of x h in
      let b = atom-of y k in
      record { found = Binary o a.found b.found; tree = ap₂ (binary o) a.tree b.tree; fits = (a.fits, b.fits) }
  value-of (call f no_more) (value-call h) = record { found = Call f; tree = refl; fits = h }

  -- The declared words.
  abbrev Declares : ℕ → Type 0
  Declares i = (sizes.store ≤ i) × (i < first_temporary sizes)

  record IsDeclared (i : ℕ) : Type 0 where
    found : ℕ
    same : sizes.store + found ≡ i
    fits : found < names.declared

  declared-of : (i : ℕ) → Declares i → IsDeclared i
  declared-of i d = let low = d.0 in let high = d.1 in record { found = i - sizes.store; same = omega arith; fits = omega (arith, within.same_declared) }

  record IsLine (line : PageLine) : Type 0 where
    found : LineContent
    tree : line_tree sizes found ≡ line
    fits : LineFits names found

  line-of : (line : PageLine) → page-fits.LineFits Named names.arrays Declares line → IsLine line
  line-of line fits-empty = record { found = Empty; tree = refl; fits = tt }
  line-of line fits-abort = record { found = Abort; tree = refl; fits = tt }
  line-of line (fits-goto {l = l} h) = record { found = Goto l; tree = refl; fits = h }
  line-of line (fits-label {l = l} h) = record { found = Label l; tree = refl; fits = h }
  line-of line (fits-store {i = i} {e = e} n h) =
      let a = name-of i n in
      let v = value-of e h in
      record { found = Store a.found v.found; tree = rw (a.tree, v.tree); fits = (a.fits, v.fits) }
  line-of line (fits-put {array = array} {index = index} {e = e} b h k) =
      let i = atom-of index h in
      let a = atom-of e k in
      record { found = Put array i.found a.found; tree = rw (i.tree, a.tree); fits = ((b, i.fits), a.fits) }
  line-of line fits-opens = record { found = Opens; tree = refl; fits = tt }
  line-of line (fits-while {e = e} h) = let a = atom-of e h in record { found = While a.found; tree = rw a.tree; fits = a.fits }
  line-of line (fits-if {e = e} h) = let a = atom-of e h in record { found = If a.found; tree = rw a.tree; fits = a.fits }
  line-of line fits-turns = record { found = Turns; tree = refl; fits = tt }
  line-of line fits-closes = record { found = Closes; tree = refl; fits = tt }
  line-of line (fits-return {e = e} h) = let a = atom-of e h in record { found = Return a.found; tree = rw a.tree; fits = a.fits }
  line-of line (fits-call {i = i} {f = f} n h) = let a = name-of i n in record { found = OpensCall a.found f; tree = rw a.tree; fits = (a.fits, h) }
  line-of line (fits-argument {e = e} h) = let a = atom-of e h in record { found = Argument a.found; tree = rw a.tree; fits = a.fits }
  line-of line (fits-last-argument {e = e} h) = let a = atom-of e h in record { found = LastArgument a.found; tree = rw a.tree; fits = a.fits }
  line-of line (fits-function {f = f} h) = record { found = OpensFunction f; tree = refl; fits = h }
  line-of line (fits-parameters {f = f} h) = record { found = OpensParameters f; tree = refl; fits = h }
  line-of line (fits-parameter {word = word} p) = let d = declared-of word p in record { found = Parameter d.found; tree = ap parameter d.same; fits = d.fits }
  line-of line (fits-last-parameter {word = word} p) = let d = declared-of word p in record { found = LastParameter d.found; tree = ap last_parameter d.same; fits = d.fits }

  record AreLines (lines : List Indented) : Type 0 where
    found : List LineContent
    tree : trees sizes found ≡ plain lines
    fits : AllFit names found
    many : length found ≡ length lines

  lines-of : (lines : List Indented) → page-fits.AllFit Named names.arrays Declares lines → AreLines lines
  unfolding plain AllFit
  lines-of [] all_none = record { found = []; tree = refl; fits = tt; many = refl }
  lines-of (indented level line ∷ lines) (all_more f h) =
      let l = line-of line f in
      let r = lines-of lines h in
      record { found = l.found ∷ r.found; tree = ap₂ (λ x xs. x ∷ xs) l.tree r.tree; fits = (l.fits, r.fits); many = ap suc r.many }

-- ---- legal tables

module _ (header rows : List ℤ) (legal : Legal header rows) (words : (i : ℕ) → mag (get_or rows i (pos 0)) < 2 ^ 31) where
  -- No page of a legal kernel table has a wrong line.
  pub table-scans : scan (names_of header) (table_page header rows) ≡ Ok (row_count rows)
  unfolding names_of bounds_of header_store store_size table_page page_bytes
  table-scans =
      let names = names_of header in
      let sizes = sizes_of header in
      let f = header_fits-facts Kernel header legal.header-fits in
      let few = (count_fits-facts Kernel (length rows) legal.structured.count-fits).most in
      let within : Within sizes names = record { variables_inside = omega arith; same_declared = refl } in
      let l = lines-of names sizes within (table_lines rows) (lines_fit header rows legal words) in
      let back : read_lines (trees sizes l.found) ≡ Some (contents rows) = ap read_lines l.tree ∙ lines-read-back (legal-form header rows legal) 0 in
      let balances = read-balanced sizes l.found (contents rows) back in
      let p = balanced-program sizes l.found balances in
      let again : Some p.items ≡ Some (contents rows) = sym p.read ∙ back in
      let same : p.items ≡ contents rows = cc in
      let printed : levels sizes l.found (outside []) ≡ table_lines rows = p.printed ∙ ap (items_lines 0) same in
      let long : length (table_page header rows) ≡ 81 * length l.found = page-columns header rows legal words ∙ ap (λ (n : ℕ). 81 * n) (sym l.many) in
      scan-complete names f.few_variables (omega (arith, f.few_declared, f.few_temporaries)) f.few_arrays sizes within (table_page header rows) l.found
      (omega (arith, l.many, lines-of-rows header rows legal words)) l.fits balances (ap (lines_bytes sizes 1) (sym printed)) long
      ∙ ap Ok (sym (program-rows sizes l.found (contents rows) back) ∙ legal-rows header rows legal)
