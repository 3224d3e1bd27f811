-- The walk over the values: what is printed so far, and the lines of the values that are left.
use mathlib.Core.Path.{◌≡◌, refl, sym, ap, ◌∙◌}
use mathlib.Core.List.{List, [], ◌++◌, append_assoc, append-nil}
use Prim.Native.Nat.{ℕ, suc, ◌+◌, ◌-◌, ◌*◌, ◌^◌, ◌≤◌, ◌<◌}
use native.Mathlib.Omega.{arith}
use lib.IntN.{ℤ, pos, ◌+ℤ◌, +ℤ_idr, +ℤ_assoc}
use lib.ListN.{length}
use lib.Signed.{mag}
use mir.Syntax.{w32}
use mir.Val.{to_z, of_z}
use mir.Facts.{to_z_pos}
use Rattle.words.specs.Laws.{back}
use Rattle.words.specs.OverLaws.{part, back_in}
use Rattle.text_numbers.specs.Writer.{Put}
use Rattle.text_numbers.specs.PutLaws.{put-none, put_next, put_as, put-length, put-inside, put-space}
use Rattle.day_form.specs.Settings.{most_values}
use Rattle.day_form.specs.Plans.{Sets}
use Rattle.day_form.specs.declared.setting.Setting.{Setting}
use Rattle.day_values.specs.Values.{day_line, values_output, setting_output}
use Rattle.day_values.specs.Conditions.{line_room, day_room}

module _ (line : ℤ → List ℕ) where
  none_left : (value : ℤ) (left : ℕ) → left ≡ 0 → values_output line value left ≡ []
  unfolding values_output
  none_left value left e = rw e

  one_more : (value : ℤ) (left : ℕ) → values_output line value (suc left) ≡ line value ++ values_output line (value +ℤ pos 1) left
  unfolding values_output
  one_more value left = refl

  -- the lines of so many values are printed
  pub record Made (lowest : ℤ) (values : ℕ) (buffer : List ℕ) (done end : ℕ) (output : List ℕ) : Type 0 where
    pub inside : done ≤ values
    pub short : end ≤ line_room * done
    pub bytes : List ℕ
    pub put : Put bytes buffer end output
    pub same : values_output line lowest values ≡ bytes ++ values_output line (lowest +ℤ pos done) (values - done)

  pub made-start : (lowest : ℤ) (values : ℕ) (buffer : List ℕ) → Made lowest values buffer 0 0 buffer
  made-start lowest values buffer =
      let all : values - 0 ≡ values = omega arith in
      record { inside = omega arith; short = omega arith; bytes = []; put = put-none buffer; same = rw (+ℤ_idr lowest, all) refl }

  module _ {lowest : ℤ} {values : ℕ} {buffer : List ℕ} {done end : ℕ} {output : List ℕ} (m : Made lowest values buffer done end output) where
    pub made-end : values ≤ done → Put (values_output line lowest values) buffer end output
    made-end h =
        put_as (sym (m.same ∙ ap (λ (l : List ℕ). m.bytes ++ l) (none_left (lowest +ℤ pos done) (values - done) (omega arith)) ∙ append-nil m.bytes)) m.put

    -- there is room for the next line
    module _ (few : values ≤ most_values) (roomy : day_room ≤ length buffer) where
      pub made-fits : length m.bytes ≤ length buffer
      made-fits = omega (arith, m.put.size, m.short, m.inside)

      pub made-space : done < values → line_room ≤ length (part end output)
      made-space h = put-space m.put line_room (omega (arith, m.put.size, m.short))

      pub made_inside : end ≤ length output
      made_inside = put-inside m.put made-fits

      pub made-length : length output ≡ length buffer
      made-length = put-length m.put made-fits

    split : done < values → values_output line (lowest +ℤ pos done) (values - done) ≡ line (lowest +ℤ pos done) ++ values_output line (lowest +ℤ pos (done + 1)) (values - (done + 1))
    split h =
        let e : values - done ≡ suc (values - (done + 1)) = omega arith in
        ap (values_output line (lowest +ℤ pos done)) e
        ∙ one_more (lowest +ℤ pos done) (values - (done + 1))
        ∙ ap (λ (z : ℤ). line (lowest +ℤ pos done) ++ values_output line z (values - (done + 1))) (+ℤ_assoc lowest (pos done) (pos 1))

    pub made-next : done < values → (value : ℤ) → value ≡ lowest +ℤ pos done → (size : ℕ) (lent : List ℕ) → Put (line value) (part end output) size lent → size ≤ line_room
        → Made lowest values buffer (done + 1) (end + size) (back_in end output lent)
    made-next h value e size lent p s = record {
      inside = omega arith;
      short = omega (arith, m.short);
      bytes = m.bytes ++ line value;
      put = put_next m.put (line value) size lent p;
      same =
          m.same ∙ ap (λ (l : List ℕ). m.bytes ++ l) (split h ∙ ap (λ (z : ℤ). line z ++ values_output line (lowest +ℤ pos (done + 1)) (values - (done + 1))) (sym e))
          ∙ sym (append_assoc m.bytes (line value) _);
    }

-- ---- the values, as words that went through their bits

module _ {setting : Setting} (s : Sets setting) where
  abbrev low : ℤ
  low = to_z w32 (of_z w32 setting.lowest)

  lowest-word : mag setting.lowest < 2 ^ 31
  lowest-word = rw (+ℤ_idr setting.lowest) at (s.words.each 0 s.some_value)

  low-is : low ≡ setting.lowest
  low-is = back setting.lowest lowest-word

  module _ {done : ℕ} (h : done < setting.values) where
    sum_is : low +ℤ to_z w32 done ≡ setting.lowest +ℤ pos done
    sum_is = ap (λ (z : ℤ). z +ℤ to_z w32 done) low-is ∙ ap (λ (z : ℤ). setting.lowest +ℤ z) (to_z_pos w32 (omega (arith, s.few)))

    pub value-word : mag (low +ℤ to_z w32 done) < 2 ^ 31
    value-word = rw sum_is (s.words.each done h)

    pub value_is : to_z w32 (of_z w32 (low +ℤ to_z w32 done)) ≡ low +ℤ pos done
    value_is = back (low +ℤ to_z w32 done) value-word ∙ sum_is ∙ ap (λ (z : ℤ). z +ℤ pos done) (sym low-is)

  pub setting-lines : (header rows : List ℤ) (lines : List (List ℤ)) → values_output (day_line header rows setting.variable lines) low setting.values ≡ setting_output header rows setting lines
  unfolding setting_output
  setting-lines header rows lines = ap (λ (z : ℤ). values_output (day_line header rows setting.variable lines) z setting.values) low-is
