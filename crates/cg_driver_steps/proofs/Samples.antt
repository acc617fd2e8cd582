-- The two commands that there aren't.
use Rattle.std.proofs.Common.{◌≡◌, ◌<◌, ◌≤◌, ◌∙◌, inl, inr, ℕ, List, [], ◌∷◌, length, take, Some, refl, sym, ap, subst, arith}
use Rattle.std.proofs.lemmas.List.{take_all, length-take}
use Rattle.std.specs.FinMap.{insert}
use Rattle.cg_outside.specs.Held.{bytes_at}
use Rattle.cg_driver_steps.specs.declared.status.Status.{Status}
use Rattle.cg_driver_steps.specs.declared.status.Status.TheVariants.{ReadFault, WriteFault, TooLarge}
use Rattle.cg_driver_steps.specs.World.{world}
use Rattle.cg_driver_steps.specs.Steps.{Outcome, refuses, goes, unread_line, unwritten_line}
use Rattle.cg_driver_steps.specs.Scripts.{IsRuling}
use Rattle.cg_driver_steps.specs.Samples.{Texts, Question, short, too_long, Finds, copy_twice, join_three, SecondWriteFails, StopsBetween, RefusesLong, ThirdReadFails, ClausesHold}
use Rattle.cg_driver_steps.proofs.Topping.{decided, unwrote, leaves_unwritten, completes}

-- a file of at most eight bytes is read whole
whole : (bytes : List ℕ) → length bytes ≤ 8 → take 9 bytes ≡ bytes
whole bytes fits = take_all 9 bytes (omega (arith, fits))

-- and of a longer one more than eight
longer : (bytes : List ℕ) → 8 < length bytes → 8 < length (take 9 bytes)
longer bytes long = omega (arith, length-take 9 bytes, long)

within : (bytes : List ℕ) → length bytes ≤ 8 → length (take 9 bytes) ≤ 8
within bytes fits = omega (arith, length-take 9 bytes, fits)

single : (j : Question) (s : Texts) (o o' : Outcome Texts) → Finds j s o → Finds j s o' → o ≡ o'
single (short most) s (refuses a t) (refuses a' t') d d' = ap (λ x. refuses x t) (d.0 ∙ sym d'.0) ∙ ap (refuses a') (d.1 ∙ sym d'.1)
single (short most) s (refuses a t) (goes n) d d' = let x = d.2 in let y = d'.1 in absurd (omega (arith, x, y))
single (short most) s (goes n) (refuses a t) d d' = let x = d'.2 in let y = d.1 in absurd (omega (arith, x, y))
single (short most) s (goes n) (goes n') d d' = ap goes (d.0 ∙ sym d'.0)

ruling : (j : Question) (s : Texts) (status : Status) (text : List ℕ) → Finds j s (refuses status text) → IsRuling status
ruling (short most) s status text d = subst IsRuling (sym d.0) tt

pub second_write_fails : SecondWriteFails
second_write_fails held reads writes writes' file left right n fits rose =
    let bytes = take 9 (bytes_at held file) in
    let same : bytes ≡ bytes_at held file = whole (bytes_at held file) fits in
    let after = world (Some (insert held left bytes)) reads writes in (
      refuses WriteFault (unwritten_line right),
      inr (
        bytes ∷ [],
        world (Some held) reads writes,
        (bytes, refl, refl, refl),
        inr (
          bytes ∷ [],
          world (Some held) reads writes,
          ((refl, within (bytes_at held file) fits), refl),
          inr (
            bytes ∷ [],
            after,
            (refl, record { held = refl; reads = refl; writes = refl }),
            inl (
              tt,
              (
                refl,
                refl,
                record {
                  held = (n, ap (λ b. Some (insert (insert held left b) right (take n b))) (sym same));
                  reads = refl;
                  writes = rose;
                },
              ),
            ),
          ),
        ),
      ),
      (refl, refl),
    )

pub stops_between : StopsBetween
stops_between held reads writes file left right fits =
    let bytes = take 9 (bytes_at held file) in
    let same : bytes ≡ bytes_at held file = whole (bytes_at held file) fits in
    let after = world (Some (insert held left (bytes_at held file))) reads writes in
    inr (inr (
      bytes ∷ [],
      world (Some held) reads writes,
      (bytes, refl, refl, refl),
      inr (inr (
        bytes ∷ [],
        world (Some held) reads writes,
        ((refl, within (bytes_at held file) fits), refl),
        inr (inr (
          bytes ∷ [],
          after,
          (refl, record { held = ap (λ b. Some (insert held left b)) (sym same); reads = refl; writes = refl }),
          inl refl,
        )),
      )),
    ))

pub refuses_long : RefusesLong
refuses_long held reads writes file left right long =
    let bytes = take 9 (bytes_at held file) in (
      refuses TooLarge too_long,
      inr (
        bytes ∷ [],
        world (Some held) reads writes,
        (bytes, refl, refl, refl),
        inl (tt, ((refl, refl, longer (bytes_at held file) long), refl)),
      ),
      (refl, refl),
    )

pub third_read_fails : ThirdReadFails
third_read_fails held reads reads' writes a b c rose =
    let now = world (Some held) reads writes in
    let x = take 9 (bytes_at held a) in
    let y = take 9 (bytes_at held b) in (
      refuses ReadFault (unread_line c),
      inr (
        x ∷ [],
        now,
        (x, refl, refl, refl),
        inr (
          y ∷ x ∷ [],
          now,
          (y, refl, refl, refl),
          inl (tt, (refl, refl, record { held = refl; reads = rose; writes = refl })),
        ),
      ),
      (refl, refl),
    )

pub clauses_hold : ClausesHold
clauses_hold file left right old new taken taken' before now result = (
  λ a held told v. decided Finds single (copy_twice file left right) old new taken taken' before now result a held told v,
  λ a e. unwrote Finds ruling (copy_twice file left right) old new taken taken' before now result a e,
  λ a. leaves_unwritten Finds (join_three file left right) old new taken taken' before now result a tt,
  λ a held status told calm quiet k. completes Finds ruling (join_three file left right) old new taken taken' before now result a single held told calm quiet status k,
)
