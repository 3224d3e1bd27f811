-- Limit answers: depth 64 is within the source's limit, depth 65 is not (cause 9), of chains of minus and of arms, by computing brief notes; and the
-- kernel's limits, which are too large for a sample.
use Rattle.std.specs.Prelude.{◌≡◌, refl, true, false}
use Rattle.words.specs.Word.{natural}
use Rattle.words.specs.Table.{word_at, number_at}
use Rattle.words.specs.Layout.{depth_limit, row_limit}
use Rattle.words.specs.declared.Form.TheVariants.{Source, Kernel}
use Rattle.words.specs.Kinds.{kind_of, kind_in, kinds, sort_in, kind_row, expression_fields, statement_fields, mark_fields, member_fields, sort_of, sort_at, is_link}
use Rattle.words.specs.Links.{link, target, received}
use Rattle.check_structure.specs.Links.{deeper, depth_at, too_deep}
use Rattle.check_brief.specs.BriefNotes.{linked_from, linker_among, brief_note, brief_depth_at}
use Rattle.check_brief.specs.BriefNoteLaws.{depth-by, deep-by}
use Rattle.check_answers.specs.Sample.{chain, guarded_in}

pub record Limits : Type 0 where
  -- the constant at the end of a chain, and whether it is too deep
  pub depth_64 : too_deep Source (chain 61) 63 ≡ false
  pub depth_65 : too_deep Source (chain 62) 64 ≡ true
  -- "Up to 40,980 rows, depth up to 512."
  pub kernel_depth : depth_limit Kernel ≡ 512
  pub kernel-rows : row_limit Kernel ≡ 40980

pub limit-answers : Limits
unfolding natural word_at number_at kind_of kind_in kinds sort_in kind_row expression_fields statement_fields mark_fields member_fields sort_of sort_at is_link link target received deeper linked_from linker_among brief_note brief_depth_at
limit-answers = record { depth_64 = deep-by Source (chain 61) 63 false refl; depth_65 = deep-by Source (chain 62) 64 true refl; kernel_depth = refl; kernel-rows = refl }

-- Arms are one list: each has the guarded statement's depth and one more, its guard and its block two more. Here the guarded if is row 1.
pub record ArmDepths : Type 0 where
  pub guarded-if : depth_at (guarded_in 0 1) 1 ≡ 2
  pub arm : depth_at (guarded_in 0 1) 2 ≡ 3
  pub guard : depth_at (guarded_in 0 1) 3 ≡ 4
  pub block : depth_at (guarded_in 0 1) 4 ≡ 4
  pub next_arm : depth_at (guarded_in 0 1) 5 ≡ 3
  pub next_guard : depth_at (guarded_in 0 1) 6 ≡ 4
  pub next_block : depth_at (guarded_in 0 1) 7 ≡ 4

pub arm-depths : ArmDepths
unfolding natural word_at number_at kind_of kind_in kinds sort_in kind_row expression_fields statement_fields mark_fields member_fields sort_of sort_at is_link link target received deeper linked_from linker_among brief_note brief_depth_at
arm-depths = record { guarded-if = depth-by (guarded_in 0 1) 1 2 refl; arm = depth-by (guarded_in 0 1) 2 3 refl; guard = depth-by (guarded_in 0 1) 3 4 refl; block = depth-by (guarded_in 0 1) 4 4 refl; next_arm = depth-by (guarded_in 0 1) 5 3 refl; next_guard = depth-by (guarded_in 0 1) 6 4 refl; next_block = depth-by (guarded_in 0 1) 7 4 refl }

-- In 62 blocks the second arm of the guarded if is row 66, in 63 row 67.
pub record ArmLimits : Type 0 where
  pub arm_64 : too_deep Source (guarded_in 0 62) 66 ≡ false
  pub arm_65 : too_deep Source (guarded_in 0 63) 67 ≡ true

pub arm-limits : ArmLimits
unfolding natural word_at number_at kind_of kind_in kinds sort_in kind_row expression_fields statement_fields mark_fields member_fields sort_of sort_at is_link link target received deeper linked_from linker_among brief_note brief_depth_at
arm-limits = record { arm_64 = deep-by Source (guarded_in 0 62) 66 false refl; arm_65 = deep-by Source (guarded_in 0 63) 67 true refl }
