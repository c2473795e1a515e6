-- `read_within`: each return follows from the tests before it. The lemmas state those tests of the version and the seconds that the code read.
use Rattle.std.proofs.Common.{◌≡◌, Bool, true, ℕ, List, sym, ap, ◌∙◌}
use Rattle.model.specs.Numbers.{one_of}
use Rattle.model.specs.Record.{version_of, seconds_of}
use Rattle.model.specs.Reading.{both_versions, length_ok, seconds_ok, size_of, cells_of, steps_of}
use Rattle.reading.specs.ReadingLaws.{LengthAndVersionOk, header_passed, answer_length, answer_version, answer_counts, answer_seconds, answer_size, answer_caller}
use Rattle.reading.specs.Caller.{answer_within}
use Rattle.reading.proofs.read_within.Goals as goal

known : (s : List ℕ) {v : ℕ} {t : Bool} → v ≡ version_of s → t ≡ one_of both_versions v → t ≡ one_of both_versions (version_of s)
known s e f = f ∙ ap (one_of both_versions) e

opened : (s : List ℕ) {v n T : ℕ} {l t : Bool} → l ≡ length_ok both_versions s → l ≡ true → v ≡ version_of s → t ≡ one_of both_versions v → t ≡ true
    → n ≡ cells_of s → T ≡ steps_of s → LengthAndVersionOk s n T
opened s e h f g k m o = record { lengths = sym e ∙ h; version = sym (known s f g) ∙ k; cells = m; steps = o }

tested : (s : List ℕ) {v x : ℕ} {t : Bool} → v ≡ version_of s → x ≡ seconds_of s → t ≡ seconds_ok v x → t ≡ seconds_ok (version_of s) (seconds_of s)
tested s {v} e f g = g ∙ ap (seconds_ok v) f ∙ ap (λ (y : ℕ). seconds_ok y (seconds_of s)) e

sized : (s : List ℕ) (n T : ℕ) {v z : ℕ} → v ≡ version_of s → z ≡ size_of v n T → z ≡ size_of (version_of s) n T
sized s n T e f = f ∙ ap (λ (x : ℕ). size_of x n T) e

pub returns-then-not-length_within : goal.returns-then-not-length_within
returns-then-not-length_within c =
    let a = c.args in
    answer_length a.cells a.most _ (sym c.length_within.ensures ∙ c.if-not-length_within.true) c.refused.ensures

pub returns-then-not-version_known : goal.returns-then-not-version_known
returns-then-not-version_known c =
    let a = c.args in
    answer_version a.cells a.most _ (sym c.length_within.ensures ∙ c.if-not-length_within.false)
    (sym (known _ c.version-version.ensures c.version_known.ensures) ∙ c.if-not-version_known.true) c.refused-then-not-version_known.ensures

pub returns-then-not-cells_and_steps_within : goal.returns-then-not-cells_and_steps_within
returns-then-not-cells_and_steps_within c =
    let o = opened _ c.length_within.ensures c.if-not-length_within.false c.version-version.ensures c.version_known.ensures c.if-not-version_known.false
    c.number-n.ensures.0 c.number-steps.ensures.0 in
    answer_counts c.args.cells c.args.most o (sym c.cells_and_steps_within.ensures ∙ c.if-not-cells_and_steps_within.true)
    c.refused-then-not-cells_and_steps_within.ensures

pub returns-then-not-seconds_within : goal.returns-then-not-seconds_within
returns-then-not-seconds_within c =
    let o = opened _ c.length_within.ensures c.if-not-length_within.false c.version-version.ensures c.version_known.ensures c.if-not-version_known.false
    c.number-n.ensures.0 c.number-steps.ensures.0 in
    answer_seconds c.args.cells c.args.most o (sym c.cells_and_steps_within.ensures ∙ c.if-not-cells_and_steps_within.false)
    (sym (tested _ c.version-version.ensures c.seconds.ensures c.seconds_within.ensures) ∙ c.if-not-seconds_within.true)
    c.refused-then-not-seconds_within.ensures

pub returns-then-bytes-row_start : goal.returns-then-bytes-row_start
returns-then-bytes-row_start c =
    let o = opened _ c.length_within.ensures c.if-not-length_within.false c.version-version.ensures c.version_known.ensures c.if-not-version_known.false
    c.number-n.ensures.0 c.number-steps.ensures.0 in
    answer_size c.args.cells c.args.most o (sym c.cells_and_steps_within.ensures ∙ c.if-not-cells_and_steps_within.false)
    (sym (tested _ c.version-version.ensures c.seconds.ensures c.seconds_within.ensures) ∙ c.if-not-seconds_within.false)
    (sized _ _ _ c.version-version.ensures c.row_start.ensures) c.if-bytes-row_start.true c.refused-then-bytes-row_start.ensures

pub returns-then-not-caller_within : goal.returns-then-not-caller_within
returns-then-not-caller_within c =
    let o = opened _ c.length_within.ensures c.if-not-length_within.false c.version-version.ensures c.version_known.ensures c.if-not-version_known.false
    c.number-n.ensures.0 c.number-steps.ensures.0 in
    let h = header_passed o (sym c.cells_and_steps_within.ensures ∙ c.if-not-cells_and_steps_within.false)
    (sym (tested _ c.version-version.ensures c.seconds.ensures c.seconds_within.ensures) ∙ c.if-not-seconds_within.false)
    (sized _ _ _ c.version-version.ensures c.row_start.ensures) c.if-bytes-row_start.false in
    answer_caller c.args.cells c.args.most h (sym c.caller_within.ensures ∙ c.if-not-caller_within.true) c.refused-then-not-caller_within.ensures

pub returns : goal.returns
returns c =
    let o = opened _ c.length_within.ensures c.if-not-length_within.false c.version-version.ensures c.version_known.ensures c.if-not-version_known.false
    c.number-n.ensures.0 c.number-steps.ensures.0 in
    let h = header_passed o (sym c.cells_and_steps_within.ensures ∙ c.if-not-cells_and_steps_within.false)
    (sym (tested _ c.version-version.ensures c.seconds.ensures c.seconds_within.ensures) ∙ c.if-not-seconds_within.false)
    (sized _ _ _ c.version-version.ensures c.row_start.ensures) c.if-bytes-row_start.false in
    answer_within c.args.cells c.args.most h (sym c.caller_within.ensures ∙ c.if-not-caller_within.false) c.body.ensures
