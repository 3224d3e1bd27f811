-- `verb_named`: bytes that are no text are no name.
use Rattle.std.specs.Prelude.{refl}
use Rattle.command_request.specs.Ascii.{ascii}
use Rattle.command_request.specs.Requests.{verb_of}
use Rattle.command_request.proofs.Names.{are_small, no_text}
use Rattle.command_request.proofs.request.verb_named.Goals as goal

pub returns-in-Err : goal.returns-in-Err
unfolding verb_of are_small
returns-in-Err c =
    let n = c.in-Err.ensures.cases.0 in
    rw (no_text _ (ascii "check") n refl, no_text _ (ascii "run") n refl, no_text _ (ascii "preview") n refl, no_text _ (ascii "translate") n refl, no_text _ (ascii "translate-page") n refl, no_text _ (ascii "writes") n refl, no_text _ (ascii "join") n refl, no_text _ (ascii "kernel-check") n refl, no_text _ (ascii "kernel-run") n refl, no_text _ (ascii "dispatcher-run") n refl, no_text _ (ascii "page") n refl, no_text _ (ascii "flatten") n refl, no_text _ (ascii "flat-check") n refl, no_text _ (ascii "flat-run") n refl)
