-- Fits: the most names that any header gives. A line that fits a header fits these, so its numbers are small.
use Rattle.std.specs.Prelude.{ℕ, ◌+◌, ◌≤◌, ◌<◌}
use Rattle.std.proofs.Common.{arith}
use Rattle.page.specs.declared.Sizes.{Sizes}
use Rattle.page_words.specs.Texts.{AtomFits, NameFits, ValueFits, LineFits}
use Rattle.page_words.specs.declared.Names.{Names}
use Rattle.page_words.specs.declared.PageAtom.{PageAtom}
use Rattle.page_words.specs.declared.PageAtom.TheVariants.{Constant, Variable, Declared, Temporary}
use Rattle.page_words.specs.declared.Value.{Value}
use Rattle.page_words.specs.declared.Value.TheVariants.{Single, Element, Minus, Binary, Call}
use Rattle.page_words.specs.declared.LineContent.{LineContent}
use Rattle.page_words.specs.declared.LineContent.TheVariants.{Empty, Abort, Goto, Label, Store, Put, Opens, While, If, Turns, Closes, Return, OpensCall, Argument, LastArgument, OpensFunction, OpensParameters, Parameter, LastParameter}

-- "V variables (0 to 256) and up to 32 array lengths"; D at most 64 and "T temporaries (0 to 8,192)".
pub record SmallSizes (sizes : Sizes) : Type 0 where
  pub small_store : sizes.store ≤ 8192
  pub few_declared : sizes.declared ≤ 64

abbrev pub most_names : Names
most_names = record { variables = 256; declared = 8256; temporaries = 8256; arrays = 32 }

module _ (names : Names) (few_variables : names.variables ≤ 256) (few_behind : names.declared + names.temporaries ≤ 8256) (few_arrays : names.arrays ≤ 32) where
  atom-fits-most : (a : PageAtom) → AtomFits names a → AtomFits most_names a
  atom-fits-most (Constant v) h = h
  atom-fits-most (Variable n) h = omega arith
  atom-fits-most (Declared n) h = omega arith
  atom-fits-most (Temporary n) h = omega arith

  name-fits-most : (a : PageAtom) → NameFits names a → NameFits most_names a
  name-fits-most (Constant v) h = h
  name-fits-most (Variable n) h = omega arith
  name-fits-most (Declared n) h = omega arith
  name-fits-most (Temporary n) h = omega arith

  value-fits-most : (v : Value) → ValueFits names v → ValueFits most_names v
  value-fits-most (Single a) h = atom-fits-most a h
  value-fits-most (Element array index) h = (omega (arith, h.0), atom-fits-most index h.1)
  value-fits-most (Minus a) h = atom-fits-most a h
  value-fits-most (Binary o a b) h = (atom-fits-most a h.0, atom-fits-most b h.1)
  value-fits-most (Call f) h = h

  pub line-fits-most : (line : LineContent) → LineFits names line → LineFits most_names line
  line-fits-most Empty h = tt
  line-fits-most Abort h = tt
  line-fits-most (Goto l) h = h
  line-fits-most (Label l) h = h
  line-fits-most (Store a v) h = (name-fits-most a h.0, value-fits-most v h.1)
  line-fits-most (Put array index a) h = ((omega (arith, h.0.0), atom-fits-most index h.0.1), atom-fits-most a h.1)
  line-fits-most Opens h = tt
  line-fits-most (While a) h = atom-fits-most a h
  line-fits-most (If a) h = atom-fits-most a h
  line-fits-most Turns h = tt
  line-fits-most Closes h = tt
  line-fits-most (Return a) h = atom-fits-most a h
  line-fits-most (OpensCall a f) h = (name-fits-most a h.0, h.1)
  line-fits-most (Argument a) h = atom-fits-most a h
  line-fits-most (LastArgument a) h = atom-fits-most a h
  line-fits-most (OpensFunction f) h = h
  line-fits-most (OpensParameters f) h = h
  line-fits-most (Parameter n) h = omega arith
  line-fits-most (LastParameter n) h = omega arith
