-- Every translation of a source program is a kernel program's tree, and its header a kernel header. Put together from the files on form,
-- labels, names, bounds and depth.
use Rattle.std.specs.Prelude.{◌≡◌, refl, true, List, [], ◌∷◌, map, ◌⊎◌, ℕ, ◌+◌, ◌-◌, ◌≤◌, ◌<◌, ℤ, pos, length}
use Rattle.std.proofs.Common.{ap, subst, inl, inr, arith}
use Rattle.std.proofs.lemmas.List.{length-map}
use Rattle.words.specs.Word.{natural}
use Rattle.words.specs.Layout.{Layout, store_size, layout_of, declared_of, temporaries_of, behind_of, header_fits}
use Rattle.words.specs.Laws.{header_fits-facts, facts-header_fits}
use Rattle.words.specs.declared.Form.TheVariants.{Source, Kernel}
use Rattle.language.specs.Trees.{block, Items}
use Rattle.language.specs.Sizes.{statement_rows, statement_depth}
use Rattle.language.specs.WellFormed.{SourceName, SourceTree}
use Rattle.language.specs.FunctionWrites.{functions_write}
use Rattle.translation.specs.Translate.{translate, temporaries, kernel_header}
use Rattle.translation.specs.KernelForm.{KernelTree, KernelName, name_variable, name_temporary}
use Rattle.translation_form.specs.TranslateForm.{form-program}
use Rattle.translation.proofs.TranslateLabels.{labels-distinct}
use Rattle.translation_form.specs.TranslateNames.{named-program}
use Rattle.translation_form.specs.MoreNames.{more-names}
use Rattle.translation.proofs.TranslateBounds.{rows_bound, temporaries-bound, labels-bound}
use Rattle.translation_form.specs.TranslateDepth.{depth-bound}
use Rattle.translation_form.proofs.TranslateCalls.{calls-in-order}

-- Every translation is a kernel program, its temporaries behind D declared words.
pub translation-is-kernel : (L : Layout) (D : ℕ) → D ≤ 64 → (program : Items) → SourceTree L (store_size L + D) program → statement_rows (block program) ≤ 2048 → statement_depth (block program) ≤ 64 → KernelTree L (D + temporaries program) (translate (store_size L + D) program)
unfolding translate temporaries
translation-is-kernel L D declared program tree few shallow =
    let few-labels = labels-bound program in
    record {
      form = form-program (functions_write program) (store_size L + D) program 1 tree.placed (omega arith) (omega arith);
      labels_once = λ l. labels-distinct (store_size L + D) l program;
      named = named-program (KernelName L (D + temporaries program)) (length L.lengths) (functions_write program) (store_size L + D) (temporaries program) behind-declared program 1
          (more-names (SourceName L (store_size L + D)) (KernelName L (D + temporaries program)) (length L.lengths) (λ i n. kernel-name i n n.apart) program tree.named) (omega arith);
      calls = calls-in-order L (store_size L + D) program tree;
      few_temporaries = omega (arith, temporaries-bound program);
      few_rows = omega (arith, rows_bound (store_size L + D) program);
      shallow = omega (arith, depth-bound (store_size L + D) program);
    }
  where
    kernel-name : (i : ℕ) → SourceName L (store_size L + D) i → (i < L.variables) ⊎ (store_size L ≤ i) → KernelName L (D + temporaries program) i
    kernel-name i n (inl variable) = name_variable variable
    kernel-name i n (inr declared) =
        let same : store_size L + (i - store_size L) ≡ i = omega arith in
        subst (KernelName L (D + temporaries program)) same (name_temporary (omega (arith, n.inside)))

    -- "temporaries begin at S+D"
    behind-declared : (t : ℕ) → t < temporaries program → KernelName L (D + temporaries program) (store_size L + D + t)
    behind-declared t h =
        let same : store_size L + (D + t) ≡ store_size L + D + t = omega arith in
        subst (KernelName L (D + temporaries program)) same (name_temporary (omega arith))

-- ---- the header

numbers-back : (ns : List ℕ) → map natural (map pos ns) ≡ ns
unfolding natural
numbers-back [] = refl
numbers-back (n ∷ ns) = ap (λ l. n ∷ l) (numbers-back ns)

-- The kernel header says the same of variables and arrays, and D and T.
pub header-layout : (L : Layout) (D T : ℕ) → layout_of Kernel (kernel_header L D T) ≡ L
unfolding layout_of kernel_header natural
header-layout L D T = ap (λ (ns : List ℕ). record { variables = L.variables; lengths = ns }) (numbers-back L.lengths)

pub header-declared : (L : Layout) (D T : ℕ) → declared_of Kernel (kernel_header L D T) ≡ D
unfolding kernel_header natural
header-declared L D T = refl

pub header-temporaries : (L : Layout) (D T : ℕ) → temporaries_of Kernel (kernel_header L D T) ≡ T
unfolding kernel_header natural
header-temporaries L D T = refl

pub header-behind : (L : Layout) (D T : ℕ) → behind_of Kernel (kernel_header L D T) ≡ D + T
header-behind L D T = rw (header-declared L D T, header-temporaries L D T)

header-length : (L : Layout) (D T : ℕ) → length (kernel_header L D T) ≡ 3 + length L.lengths
unfolding kernel_header
header-length L D T = simp length-map (omega arith)

-- The header of a translation is within its limits.
pub header-fits : (header : List ℤ) → header_fits Source header ≡ true → (D T : ℕ) → D ≤ 64 → T ≤ 8192 → header_fits Kernel (kernel_header (layout_of Source header) D T) ≡ true
header-fits header fits D T declared few =
    let L = layout_of Source header in
    let f = header_fits-facts Source header fits in
    facts-header_fits Kernel (kernel_header L D T) (record {
      least = omega (arith, header-length L D T);
      most = omega (arith, header-length L D T, f.few_arrays);
      few_variables = rw (header-layout L D T) f.few_variables;
      few_declared = rw (header-declared L D T) declared;
      few_temporaries = rw (header-temporaries L D T) few;
      few_arrays = rw (header-layout L D T) f.few_arrays;
      each_length = rw (header-layout L D T) f.each_length;
      small_store = rw (header-layout L D T) f.small_store;
    })
