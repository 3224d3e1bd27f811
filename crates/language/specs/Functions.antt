-- Functions: what a call does. "Kind 59 defines a function"; a function is looked up by its number among the items of its program.
use Rattle.std.specs.Prelude.{List, [], ◌∷◌, ℕ, zero, suc, eqb, ℤ, pos}
use Rattle.words.specs.Word.{pick}
use Rattle.words.specs.Layout.{Layout}
use Rattle.computation.specs.Computation.{Computation, ret, ◌>>=◌, ◌>>◌, save}
use Rattle.language.specs.Trees.{block, Items, none, ◌then◌, ◌here◌, define}
use Rattle.language.specs.Meaning.{Context, Signal, next, breaking, continuing, seeking, returning, exec}

-- The store words of its parameters, and the items of its block.
pub record Function : Type 0 where
  pub parameters : List ℕ
  pub body : Items

-- The function with this number; where there is none, one that does nothing.
unfoldable pub function_of : ℕ → Items → Function
function_of f none = record { parameters = []; body = none }
function_of f (s then is) = function_of f is
function_of f (m here is) = function_of f is
function_of f (define g words body is) = pick (eqb f g) (record { parameters = words; body = body }) (function_of f is)

unfoldable pub function_count : Items → ℕ
function_count none = 0
function_count (s then is) = function_count is
function_count (m here is) = function_count is
function_count (define f words body is) = suc (function_count is)

-- Each parameter's word gets its value. "Neither definition nor parameter rows ever count a step". A call has as many arguments as its function has
-- parameters (24); a value that were missing would be 0.
unfoldable pub storing : List ℕ → List ℤ → Computation (Unit {0})
storing [] values = ret tt
storing (word ∷ words) [] = save word (pos 0) >> storing words []
storing (word ∷ words) (v ∷ values) = save word v >> storing words values

-- "Kind 60 returns a"; "reaching the end returns 0".
abbrev pub returned : Signal → ℤ
returned next = pos 0
returned breaking = pos 0
returned continuing = pos 0
returned (seeking m) = pos 0
returned (returning v) = v

-- A function's run: its parameters are stored, then its block is entered.
unfoldable pub invoke : Context → Function → List ℤ → Computation ℤ
invoke C function values = do
  storing function.parameters values
  signal ← exec C (block function.body)
  ret (returned signal)

abbrev pub context_by : Layout → (ℕ → List ℤ → Computation ℤ) → Context
context_by L calling = record { layout = L; calling = calling }

-- A function calls lower ones alone, so as many calls within calls as there are functions are enough.
unfoldable pub call_by : ℕ → Layout → Items → ℕ → List ℤ → Computation ℤ
call_by zero L program f values = ret (pos 0)
call_by (suc calls) L program f values = invoke (context_by L (call_by calls L program)) (function_of f program) values

-- What the trees of a program are read in.
unfoldable pub context_of : Layout → Items → Context
context_of L program = context_by L (call_by (function_count program) L program)

-- The same for a program without functions.
abbrev pub plain : Layout → Context
plain L = context_by L (λ f values. ret (pos 0))
