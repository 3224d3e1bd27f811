-- Declared words: a source run does not hang on what they held at the start. From the laws of scopes (`legal-independent`), about rows and words.
use Rattle.std.specs.Prelude.{◌≡◌, refl, List, [], ◌∷◌, ◌++◌, map, ℕ, ◌≤◌, ltb, ℤ, length, take}
use Rattle.std.proofs.Math.Path.{sym, ap}
use Rattle.std.proofs.Common.{◌∙◌, arith}
use Rattle.std.proofs.Math.ListN.{length-append}
use Rattle.words.specs.Word.{pick}
use Rattle.words.specs.Declarations.{declaration_count}
use Rattle.words.specs.Layout.{layout_of, store_size}
use Rattle.words.specs.declared.Form.TheVariants.{Source}
use Rattle.computation.specs.Run.{Write, Result, Limit, start, final, ending_of}
use Rattle.computation.proofs.RunLaws.{store-keeps-length}
use Rattle.computation.specs.WritesMade.{stored, visible, made}
use Rattle.language.specs.Decode.{decode}
use Rattle.language.specs.Meaning.{Signal, exec}
use Rattle.language.specs.Functions.{context_of}
use Rattle.language.specs.Program.{contents, table_program, run_table_under}
use Rattle.language_programs.specs.Program.{resolved_rows, run_under}
use Rattle.language_renaming.proofs.RenamingLaws.{itself}
use Rattle.language_renaming.specs.Twin.{moved}
use Rattle.translation_form.proofs.TemporariesHidden.{Shown, take_same}
use Rattle.check_source.specs.Legal.{Legal}
use Rattle.accepted_scopes.proofs.Accepted.{legal-independent}

-- writes that were not moved
visible-itself : (S : ℕ) (ws : List Write) → visible S (map (moved itself) ws) ≡ visible S ws
unfolding visible
visible-itself S [] = refl
visible-itself S (w ∷ ws) = ap (λ l. l ++ pick (ltb w.place S) (stored w ∷ []) []) (visible-itself S ws)

module _ (header rows : List ℤ) (legal : Legal header rows) (store declared others : List ℤ) (outer : length store ≡ store_size (layout_of Source header)) (all : length declared ≡ declaration_count rows) (others-all : length others ≡ declaration_count rows) where
  abbrev from : Limit → List ℤ → Result Signal
  from limit words = run_under limit Source header rows (store ++ words)

  same_length : (limit : Limit) → length (final (from limit others)).store ≡ length (final (from limit declared)).store
  unfolding run_under run_table_under table_program
  same_length limit =
      let program = exec (context_of (layout_of Source header) (contents (resolved_rows Source header rows))) (decode (resolved_rows Source header rows)) in
      store-keeps-length limit program (start (store ++ others)) ∙ length-append store others ∙ omega (arith, length-append store declared) ∙ sym (store-keeps-length limit program (start (store ++ declared)))

  -- "Whatever the D words held at the start": the same ending, the same first S words, the same count, under every limit.
  pub declared-hidden : (limit : Limit) → Shown (store_size (layout_of Source header)) (from limit others) (from limit declared)
  unfolding run_under run_table_under table_program
  declared-hidden limit =
      let h = legal-independent header rows legal limit store declared others outer (omega arith) (omega arith) in
      record { same_ending = h.0; same_words = take_same (store_size (layout_of Source header)) _ _ (same_length limit) h.1.values; same_count = h.1.counts }

  -- The same writes to the first S words, in the same order.
  pub declared-write-alike : (limit : Limit) → made (store_size (layout_of Source header)) (from limit others) ≡ made (store_size (layout_of Source header)) (from limit declared)
  unfolding run_under run_table_under table_program
  declared-write-alike limit =
      let h = legal-independent header rows legal limit store declared others outer (omega arith) (omega arith) in
      ap (visible (store_size (layout_of Source header))) h.1.writes ∙ visible-itself (store_size (layout_of Source header)) _
