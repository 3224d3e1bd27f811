-- `lay_content`: one case a line.
use native.Mathlib.Omega.{arith}
use mathlib.Core.Path.{◌≡◌, subst}
use mathlib.Core.List.{List}
use Prim.Native.Nat.{ℕ}
use Rattle.words.specs.Table.{row_count}
use Rattle.language.specs.Decode.{expression_at, place_of}
use Rattle.page.specs.Page.{line_words, parted}
use Rattle.page_line.specs.declared.LineAt.{LineAt}
use Rattle.page_line.specs.Contents.{line_tree, LineInside}
use Rattle.page_line.specs.LaidLaws.{laid_as, laid_of}
use Rattle.page_line.specs.ContentLaws.{goto-bytes, while-bytes, if-bytes, call-bytes, argument-bytes, last-argument-bytes, function-bytes, parameters-bytes, parameter-bytes, last-parameter-bytes}
use Rattle.page_line.proofs.contents.lay_content.Goals as goal
use Rattle.page_line.proofs.contents.lay_content.Goals.{Start}

abbrev bytes : Start → LineAt → List ℕ
bytes c l = parted (line_words c.args.sizes (line_tree c.args.rows.now l))

inside : (c : Start) {l : LineAt} → c.args.line ≡ l → LineInside (row_count c.args.rows.now) l
inside c e = subst (λ (l : LineAt). LineInside (row_count c.args.rows.now) l) e c.requires.readable.1

pub lay_byte-requires : goal.lay_byte-requires
unfolding parted
lay_byte-requires c =
    omega (arith, rw c.in-Empty.is at c.requires.line_in_bounds)

pub lay_assignment-requires : goal.lay_assignment-requires
lay_assignment-requires c =
    record { readable = (c.requires.readable.0, inside (goal.at.lay_assignment-requires c).Start c.in-Express.is); row_in_bounds = rw c.in-Express.is at c.requires.line_in_bounds }

pub lay_goto-requires : goal.lay_goto-requires
lay_goto-requires c =
    rw (c.in-Goto.is, ← goto-bytes c.args.sizes c.in-Goto.number) at c.requires.line_in_bounds

pub lay_bytes-requires : goal.lay_bytes-requires
unfolding parted
lay_bytes-requires c =
    omega (arith, rw c.in-Abort.is at c.requires.line_in_bounds)

pub lay_mark-requires : goal.lay_mark-requires
lay_mark-requires c =
    rw c.in-Mark.is at c.requires.line_in_bounds

pub lay_byte-requires-in-Opens : goal.lay_byte-requires-in-Opens
unfolding parted
lay_byte-requires-in-Opens c =
    omega (arith, rw c.in-Opens.is at c.requires.line_in_bounds)

pub lay_test-requires : goal.lay_test-requires
lay_test-requires c =
    record { readable = (c.requires.readable.0, inside (goal.at.lay_test-requires c).Start c.in-While.is); row_in_bounds = rw (c.in-While.is, ← while-bytes c.args.sizes (expression_at c.args.rows.now c.in-While.row)) at c.requires.line_in_bounds }

pub lay_test-requires-in-If : goal.lay_test-requires-in-If
lay_test-requires-in-If c =
    record { readable = (c.requires.readable.0, inside (goal.at.lay_test-requires-in-If c).Start c.in-If.is); row_in_bounds = rw (c.in-If.is, ← if-bytes c.args.sizes (expression_at c.args.rows.now c.in-If.row)) at c.requires.line_in_bounds }

pub lay_bytes-requires-in-Turns : goal.lay_bytes-requires-in-Turns
unfolding parted
lay_bytes-requires-in-Turns c =
    omega (arith, rw c.in-Turns.is at c.requires.line_in_bounds)

pub lay_byte-requires-in-Closes : goal.lay_byte-requires-in-Closes
unfolding parted
lay_byte-requires-in-Closes c =
    omega (arith, rw c.in-Closes.is at c.requires.line_in_bounds)

pub lay_given-requires : goal.lay_given-requires
lay_given-requires c =
    record { readable = (c.requires.readable.0, inside (goal.at.lay_given-requires c).Start c.in-Return.is); value_in_bounds = rw c.in-Return.is at c.requires.line_in_bounds }

pub lay_call-requires : goal.lay_call-requires
lay_call-requires c =
    record { readable = (c.requires.readable.0, inside (goal.at.lay_call-requires c).Start c.in-OpensCall.is); number_in_bounds = rw (c.in-OpensCall.is, ← call-bytes c.args.sizes (place_of (expression_at c.args.rows.now c.in-OpensCall.place)) c.in-OpensCall.number) at c.requires.line_in_bounds }

pub lay_argument-requires : goal.lay_argument-requires
lay_argument-requires c =
    record { readable = (c.requires.readable.0, inside (goal.at.lay_argument-requires c).Start c.in-Argument.is); ending_in_bounds = rw (c.in-Argument.is, ← argument-bytes c.args.sizes (expression_at c.args.rows.now c.in-Argument.row)) at c.requires.line_in_bounds }

pub lay_argument-requires-in-LastArgument : goal.lay_argument-requires-in-LastArgument
lay_argument-requires-in-LastArgument c =
    record { readable = (c.requires.readable.0, inside (goal.at.lay_argument-requires-in-LastArgument c).Start c.in-LastArgument.is); ending_in_bounds = rw (c.in-LastArgument.is, ← last-argument-bytes c.args.sizes (expression_at c.args.rows.now c.in-LastArgument.row)) at c.requires.line_in_bounds }

pub lay_function-requires : goal.lay_function-requires
lay_function-requires c =
    rw (c.in-OpensFunction.is, ← function-bytes c.args.sizes c.in-OpensFunction.number) at c.requires.line_in_bounds

pub lay_function-requires-in-OpensParameters : goal.lay_function-requires-in-OpensParameters
lay_function-requires-in-OpensParameters c =
    rw (c.in-OpensParameters.is, ← parameters-bytes c.args.sizes c.in-OpensParameters.number) at c.requires.line_in_bounds

pub lay_parameter-requires : goal.lay_parameter-requires
lay_parameter-requires c =
    rw (c.in-Parameter.is, ← parameter-bytes c.args.sizes c.in-Parameter.word) at c.requires.line_in_bounds

pub lay_parameter-requires-in-LastParameter : goal.lay_parameter-requires-in-LastParameter
lay_parameter-requires-in-LastParameter c =
    rw (c.in-LastParameter.is, ← last-parameter-bytes c.args.sizes c.in-LastParameter.word) at c.requires.line_in_bounds

pub returns-in-Empty : goal.returns-in-Empty
unfolding parted
returns-in-Empty c =
    laid_of (bytes (goal.at.returns-in-Empty c).Start) c.in-Empty.is c.lay_byte.ensures

pub returns-in-Express : goal.returns-in-Express
returns-in-Express c =
    laid_of (bytes (goal.at.returns-in-Express c).Start) c.in-Express.is c.lay_assignment.ensures

pub returns-in-Goto : goal.returns-in-Goto
returns-in-Goto c =
    laid_of (bytes (goal.at.returns-in-Goto c).Start) c.in-Goto.is (laid_as (goto-bytes c.args.sizes c.in-Goto.number) c.lay_goto.ensures)

pub returns-in-Abort : goal.returns-in-Abort
unfolding parted
returns-in-Abort c =
    laid_of (bytes (goal.at.returns-in-Abort c).Start) c.in-Abort.is c.lay_bytes.ensures

pub returns-in-Mark : goal.returns-in-Mark
returns-in-Mark c =
    laid_of (bytes (goal.at.returns-in-Mark c).Start) c.in-Mark.is c.lay_mark.ensures

pub returns-in-Opens : goal.returns-in-Opens
unfolding parted
returns-in-Opens c =
    laid_of (bytes (goal.at.returns-in-Opens c).Start) c.in-Opens.is c.lay_byte-in-Opens.ensures

pub returns-in-While : goal.returns-in-While
returns-in-While c =
    laid_of (bytes (goal.at.returns-in-While c).Start) c.in-While.is (laid_as (while-bytes c.args.sizes (expression_at c.args.rows.now c.in-While.row)) c.lay_test.ensures)

pub returns-in-If : goal.returns-in-If
returns-in-If c =
    laid_of (bytes (goal.at.returns-in-If c).Start) c.in-If.is (laid_as (if-bytes c.args.sizes (expression_at c.args.rows.now c.in-If.row)) c.lay_test-in-If.ensures)

pub returns-in-Turns : goal.returns-in-Turns
unfolding parted
returns-in-Turns c =
    laid_of (bytes (goal.at.returns-in-Turns c).Start) c.in-Turns.is c.lay_bytes-in-Turns.ensures

pub returns-in-Closes : goal.returns-in-Closes
unfolding parted
returns-in-Closes c =
    laid_of (bytes (goal.at.returns-in-Closes c).Start) c.in-Closes.is c.lay_byte-in-Closes.ensures

pub returns-in-Return : goal.returns-in-Return
returns-in-Return c =
    laid_of (bytes (goal.at.returns-in-Return c).Start) c.in-Return.is c.lay_given.ensures

pub returns-in-OpensCall : goal.returns-in-OpensCall
returns-in-OpensCall c =
    laid_of (bytes (goal.at.returns-in-OpensCall c).Start) c.in-OpensCall.is (laid_as (call-bytes c.args.sizes (place_of (expression_at c.args.rows.now c.in-OpensCall.place)) c.in-OpensCall.number) c.lay_call.ensures)

pub returns-in-Argument : goal.returns-in-Argument
returns-in-Argument c =
    laid_of (bytes (goal.at.returns-in-Argument c).Start) c.in-Argument.is (laid_as (argument-bytes c.args.sizes (expression_at c.args.rows.now c.in-Argument.row)) c.lay_argument.ensures)

pub returns-in-LastArgument : goal.returns-in-LastArgument
returns-in-LastArgument c =
    laid_of (bytes (goal.at.returns-in-LastArgument c).Start) c.in-LastArgument.is (laid_as (last-argument-bytes c.args.sizes (expression_at c.args.rows.now c.in-LastArgument.row)) c.lay_argument-in-LastArgument.ensures)

pub returns-in-OpensFunction : goal.returns-in-OpensFunction
returns-in-OpensFunction c =
    laid_of (bytes (goal.at.returns-in-OpensFunction c).Start) c.in-OpensFunction.is (laid_as (function-bytes c.args.sizes c.in-OpensFunction.number) c.lay_function.ensures)

pub returns-in-OpensParameters : goal.returns-in-OpensParameters
returns-in-OpensParameters c =
    laid_of (bytes (goal.at.returns-in-OpensParameters c).Start) c.in-OpensParameters.is (laid_as (parameters-bytes c.args.sizes c.in-OpensParameters.number) c.lay_function-in-OpensParameters.ensures)

pub returns-in-Parameter : goal.returns-in-Parameter
returns-in-Parameter c =
    laid_of (bytes (goal.at.returns-in-Parameter c).Start) c.in-Parameter.is (laid_as (parameter-bytes c.args.sizes c.in-Parameter.word) c.lay_parameter.ensures)

pub returns-in-LastParameter : goal.returns-in-LastParameter
returns-in-LastParameter c =
    laid_of (bytes (goal.at.returns-in-LastParameter c).Start) c.in-LastParameter.is (laid_as (last-parameter-bytes c.args.sizes c.in-LastParameter.word) c.lay_parameter-in-LastParameter.ensures)
