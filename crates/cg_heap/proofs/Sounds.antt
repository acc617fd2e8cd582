-- What a store holds stays sound.
use Rattle.std.proofs.Common.{rules, zero, suc, ◌≡◌, ℕ, ◌<◌, ◌≤◌, ◌^◌, Bool, true, false, cond, refl, sym, ◌∙◌, arith, ◌⊎◌, inl, inr, ⊎_elim}
use Rattle.std.specs.Cmp.{nat_cmp_total}
use Rattle.std.specs.FinMap as map
use Rattle.std.specs.FinMap.{FinMap, get-insert, get-remove, get-empty, nat_cmp-IsAntisymmetric}
use Rattle.std.specs.declared.option.Option.{Option}
use Rattle.std.specs.declared.option.Option.TheVariants.{None, Some}
use Rattle.std.specs.Ordering.{nat_cmp, eq_by_cmp, is_eq}
use Rattle.std.specs.declared.cmp.Ordering.{Ordering}
use Rattle.std.specs.declared.cmp.Ordering.TheVariants.{Less, Equal, Greater}
use Rattle.cg_heap.specs.declared.cell.Cell.{Cell}
use Rattle.cg_heap.specs.Stored.{Stored, IsSound, cell_at, cell_length, changed, in_cell, in_place, without_cell, asked_of}
use Rattle.cg_base.proofs.Options.{some_is}

pub alike : (x y : ℕ) (r : Ordering) → nat_cmp x y ≡ r → is_eq r ≡ true → x ≡ y
alike x y Less e same = absurd (search rules)
alike x y Equal e same = nat_cmp-IsAntisymmetric x y e
alike x y Greater e same = absurd (search rules)

-- what is held after a cell was put in: this cell at this address, or what was held before
chosen : (b : Bool) (p q : ℕ) (c d : Cell) (o : Option Cell) → eq_by_cmp nat_cmp q p ≡ b → cond b (Some c) o ≡ Some d → ((q ≡ p) × (d ≡ c)) ⊎ (o ≡ Some d)
chosen true p q c d o same e = inl (alike q p (nat_cmp q p) refl same, sym (some_is c d e))
chosen false p q c d o same e = inr e

put_or_was : (m : FinMap nat_cmp Cell) (p q : ℕ) (c d : Cell) → map.get (map.insert m p c) q ≡ Some d → ((q ≡ p) × (d ≡ c)) ⊎ (map.get m q ≡ Some d)
put_or_was m p q c d e = chosen (eq_by_cmp nat_cmp q p) p q c d (map.get m q) refl (sym (get-insert nat_cmp_total m p c q) ∙ e)

left_or_none : (b : Bool) (o : Option Cell) (d : Cell) → cond b None o ≡ Some d → o ≡ Some d
left_or_none true o d e = absurd (search rules)
left_or_none false o d e = e

was : (m : FinMap nat_cmp Cell) (p q : ℕ) (d : Cell) → map.get (map.remove m p) q ≡ Some d → map.get m q ≡ Some d
was m p q d e = left_or_none (eq_by_cmp nat_cmp q p) (map.get m q) d (sym (get-remove nat_cmp_total m p q) ∙ e)

none_or : (o : Option Cell) → ((d : Cell) → o ≡ Some d → ⊥) → o ≡ None
none_or None never = refl
none_or (Some d) never = absurd (never d refl)

pub empty_sound : IsSound (record { cells = map.empty; top = 0 })
empty_sound = record {
  within = λ p c e. absurd (search (rules, get-empty));
  no_null = get-empty nat_cmp 0;
  short = λ p c e. absurd (search (rules, get-empty));
  small = omega arith;
}

pub sound_with : (s : Stored) (p t : ℕ) (c : Cell) → IsSound s → 1 ≤ p → p ≤ t → s.top ≤ t → t < 2 ^ 64 → cell_length c < 2 ^ 32 → IsSound (record { cells = map.insert s.cells p c; top = t })
sound_with s p t c sound one high low small long = record {
  within = λ q d e. ⊎_elim (λ here. let same = here.0 in omega arith) (λ before. let below = sound.within q d before in omega arith) (put_or_was s.cells p q c d e);
  no_null = none_or _ (λ d e. ⊎_elim (λ here. let same = here.0 in absurd (omega arith)) (λ before. absurd (search (rules, sound.no_null, before))) (put_or_was s.cells p 0 c d e));
  short = λ q d e. ⊎_elim (λ here. rw here.1 long) (λ before. sound.short q d before) (put_or_was s.cells p q c d e);
  small = small;
}

pub sound_without : (s : Stored) (p : ℕ) → IsSound s → IsSound (without_cell p s)
sound_without s p sound = record {
  within = λ q d e. sound.within q d (was s.cells p q d e);
  no_null = none_or _ (λ d e. let before = was s.cells p 0 d e in absurd (search (rules, sound.no_null, before)));
  short = λ q d e. sound.short q d (was s.cells p q d e);
  small = sound.small;
}

-- ---- a cell was changed, and isn't longer

present_above : (s : Stored) (p : ℕ) (c : Cell) → IsSound s → cell_at s p ≡ Some c → 1 ≤ p
present_above s zero c sound here = absurd (search (rules, sound.no_null, here))
present_above s (suc p) c sound here = omega arith

sound_in_place : (f : Cell → Option Cell) → ((c d : Cell) → f c ≡ Some d → cell_length d ≤ cell_length c) → (p : ℕ) (s : Stored) → IsSound s
    → (o : Option Cell) → cell_at s p ≡ o → (r : Option Cell) → in_cell f o ≡ r → IsSound (in_place p r s)
sound_in_place f shorter p s sound None here (Some d) is = absurd (search rules)
sound_in_place f shorter p s sound (Some c) here (Some d) is =
    let long = sound.short p c here in
    let less = shorter c d is in
    sound_with s p s.top d sound (present_above s p c sound here) (sound.within p c here) (omega arith) sound.small (omega arith)
sound_in_place f shorter p s sound o here None is = sound

pub sound_changed : (f : Cell → Option Cell) → ((c d : Cell) → f c ≡ Some d → cell_length d ≤ cell_length c) → (p : ℕ) (s : Stored) → IsSound s → IsSound (changed f p s)
sound_changed f shorter p s sound = sound_in_place f shorter p s sound (cell_at s p) refl (asked_of f p s) refl
