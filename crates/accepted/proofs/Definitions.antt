-- Definitions: what stands at the row of a definition: its block, and the list from it on.
use Rattle.std.specs.Prelude.{◌≡◌, List, ℕ, ◌<◌, eqb, ℤ}
use Rattle.std.proofs.Math.Path.{refl}
use Rattle.std.proofs.Common.{sym, ap, ◌∙◌, arith, eqb-true}
use Rattle.words.specs.Table.{row_count, number_at, Whole}
use Rattle.words.specs.Kinds.{kind_at, optional_item, body_block, is_link, is_required, sort_in, kind_row, expression_fields, statement_fields, mark_fields, definition_fields, member_fields}
use Rattle.words.specs.Laws.{both}
use Rattle.words.specs.Links.{link, is_block, fits}
use Rattle.words.specs.declared.Form.{Form}
use Rattle.words.specs.declared.Kind.TheVariants.{OfStatement, Definition}
use Rattle.words.specs.declared.StatementKind.TheVariants.{Block}
use Rattle.language.specs.Trees.{Statement, block, define}
use Rattle.language.specs.Decode.{block_items, statement_at, items_at, list_at, parameter_list_at}
use Rattle.language.specs.DecodeLaws.{at_block, at-definition}
use Rattle.check_fields.specs.declared.Bounds.{Bounds}
use Rattle.check_structure.specs.Structured.{Leads, Structured}
use Rattle.check_structure.specs.StructuredLaws.{structured-tree}
use Rattle.accepted_calls.specs.Kinds.{block-kind}
use Rattle.accepted_calls.specs.CallsAlong.{link-same}
use Rattle.accepted.proofs.Fields.{MayLink, linked, may-link}
use Rattle.accepted.proofs.Expressions.{whole-rows}

module _ (form : Form) (bounds : Bounds) (rows : List ℤ) (s : Structured form bounds rows) where
  whole : Whole rows
  whole = whole-rows form bounds rows s

  -- A definition: its block, and the list from it on.
  pub record Defines (row : ℕ) : Type 0 where
    pub leads : Leads rows row 3
    pub body-kind : kind_at rows (link rows row 3) ≡ OfStatement Block
    pub first : MayLink rows (link rows row 3) optional_item 1
    pub next : MayLink rows row optional_item 5
    pub body_is : statement_at rows (link rows row 3) ≡ block (list_at rows (link rows (link rows row 3) 1))
    pub items-is : items_at rows row ≡ define (number_at rows row 1) (parameter_list_at rows (link rows row 2)) (list_at rows (link rows (link rows row 3) 1)) (list_at rows (link rows row 5))

  pub defines : (row : ℕ) → row < row_count rows → kind_at rows row ≡ Definition → Defines row
  unfolding sort_in kind_row expression_fields statement_fields mark_fields definition_fields member_fields is_link is_required fits is_block
  defines row inside k =
      let next = may-link form bounds rows s row inside k optional_item 5 refl refl in
      let c = linked form bounds rows s row inside k body_block 3 refl refl in
      let body-kind = block-kind rows (link rows row 3) (eqb-true _ _ (both (eqb (number_at rows (link rows row 3) 0) 42) _ c.fit).0) in
      let first = may-link form bounds rows s (link rows row 3) c.leads.inside body-kind optional_item 1 refl refl in
      let body_is : statement_at rows (link rows row 3) ≡ block (list_at rows (link rows (link rows row 3) 1)) = rw first.same (at_block rows whole (link rows row 3) body-kind first.later) in
      let same = link-same rows (structured-tree form bounds rows s) row inside k 2 refl in
      record {
        leads = c.leads;
        body-kind = body-kind;
        first = first;
        next = next;
        body_is = body_is;
        items-is =
            at-definition rows whole row k (λ q. rw (← same) (s.forward row inside 2 (omega arith) (omega arith) (rw same q)).later) c.later next.later
            ∙ rw (same, next.same) (ap (λ (body : Statement). define (number_at rows row 1) (parameter_list_at rows (number_at rows row 2)) (block_items body) (list_at rows (number_at rows row 5))) (ap (statement_at rows) (sym c.same) ∙ body_is));
      }
