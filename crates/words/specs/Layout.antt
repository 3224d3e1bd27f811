-- Forms and layouts: the limits of both forms, the header, the store.
use Rattle.std.specs.Prelude.{Bool, true, ◌&&◌, List, [], ◌∷◌, map, ℕ, ◌+◌, ◌*◌, ◌%◌, leb, eqb, ℤ, pos, length, get_or, take, drop, replicate}
use Rattle.words.specs.Word.{natural}
use Rattle.words.specs.Declarations.{declaration_limit, declaration_count}
use Rattle.words.specs.declared.Form.{Form}
use Rattle.words.specs.declared.Form.TheVariants.{Source, Kernel}

-- How many words the header has before the array lengths: V; kernel: V, D and T.
abbrev pub leading : Form → ℕ
leading Source = 1
leading Kernel = 3

-- "A source program has 1 to 2,048 rows." Kernel: "Up to 40,980 rows".
abbrev pub row_limit : Form → ℕ
row_limit Source = 2048
row_limit Kernel = 40980

-- "The limit is 64." Kernel: "depth up to 512".
abbrev pub depth_limit : Form → ℕ
depth_limit Source = 64
depth_limit Kernel = 512

-- What a header says of the variables and arrays: V, and the array lengths. A program and its translation share it.
pub record Layout : Type 0 where
  pub variables : ℕ
  pub lengths : List ℕ

-- A number that a kernel's header has before the array lengths, by its place; 0 in the source, whose header has V alone there.
abbrev pub kernel_number : Form → List ℤ → ℕ → ℕ
kernel_number Source header place = 0
kernel_number Kernel header place = natural (get_or header place (pos 0))

-- D, as a header says it: "its header gains D after V". The source's is the number of its rows of kind 58.
abbrev pub declared_of : Form → List ℤ → ℕ
declared_of form header = kernel_number form header 1

-- T; the source has none.
abbrev pub temporaries_of : Form → List ℤ → ℕ
temporaries_of form header = kernel_number form header 2

-- The words that a header gives behind the first S: "the kernel names them S to S+D−1", "temporaries begin at S+D".
abbrev pub behind_of : Form → List ℤ → ℕ
behind_of form header = declared_of form header + temporaries_of form header

unfoldable pub layout_of : Form → List ℤ → Layout
layout_of form header =
    record { variables = natural (get_or header 0 (pos 0)); lengths = map natural (drop (leading form) header) }

unfoldable pub sum : List ℕ → ℕ
sum [] = 0
sum (n ∷ ns) = n + sum ns

-- "The store has S words: variables, then the arrays in order".
unfoldable pub store_size : Layout → ℕ
store_size L = L.variables + sum L.lengths

-- The store words that a header gives: S (source) or S+D+T (kernel).
unfoldable pub header_store : Form → List ℤ → ℕ
header_store form header = store_size (layout_of form header) + behind_of form header

-- The words that a run's store has: "the source store is S+D words", D the declarations among the rows; the kernel's header gives all.
unfoldable pub store_words : Form → List ℤ → List ℤ → ℕ
store_words Source header rows = header_store Source header + declaration_count rows
store_words Kernel header rows = header_store Kernel header

-- A store of so many zeros.
abbrev pub zeros : ℕ → List ℤ
zeros words = replicate words (pos 0)

unfoldable pub array_length : Layout → ℕ → ℕ
array_length L array = get_or L.lengths array 0

-- Where an array begins in the store.
unfoldable pub array_base : Layout → ℕ → ℕ
array_base L array = L.variables + sum (take array L.lengths)

unfoldable pub all_within : ℕ → List ℕ → Bool
all_within most [] = true
all_within most (n ∷ ns) = (leb 1 n && leb n most) && all_within most ns

-- Cause 1, "header outside its limits": "V variables (0 to 256) and up to 32 array lengths (each 1 to 4,096)"; "S is at most
-- 8,192"; "T temporaries (0 to 8,192)"; Change 11: "there are D of them, at most 64".
unfoldable pub header_fits : Form → List ℤ → Bool
header_fits form header =
    let L = layout_of form header in
    (leb (leading form) (length header) && leb (length header) (leading form + 32))
    && (leb L.variables 256 && (leb (declared_of form header) declaration_limit && (leb (temporaries_of form header) 8192 && (all_within 4096 L.lengths && leb (store_size L) 8192))))

-- Cause 2, "no rows, too many, or words not a multiple of 6".
unfoldable pub count_fits : Form → ℕ → Bool
count_fits form words = leb 6 words && (leb words (6 * row_limit form) && eqb (words % 6) 0)
