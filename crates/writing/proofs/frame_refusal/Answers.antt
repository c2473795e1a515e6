-- `writing::frame_refusal` meets its contract: each return follows from the tests before it.
use Rattle.std.proofs.Common.{sym, ◌∙◌, arith}
use Rattle.fields.specs.HeaderLaws.{counts_facts, size_small}
use Rattle.writing.specs.Checks.{frame_version, frame_counts, frame_seconds, frame_size, frame_numbers, frame_none}
use Rattle.writing.proofs.frame_refusal.Goals as goal

pub returns-then-not-version_known : goal.returns-then-not-version_known
returns-then-not-version_known c = frame_version _ _ _ _ _ (sym c.version_known.ensures ∙ c.if-not-version_known.true)

pub returns-then-not-cells_and_steps_within : goal.returns-then-not-cells_and_steps_within
returns-then-not-cells_and_steps_within c =
    frame_counts _ _ _ _ _ (sym c.version_known.ensures ∙ c.if-not-version_known.false)
    (sym c.cells_and_steps_within.ensures ∙ c.if-not-cells_and_steps_within.true)

pub returns-then-not-seconds_within : goal.returns-then-not-seconds_within
returns-then-not-seconds_within c =
    frame_seconds _ _ _ _ _ (sym c.version_known.ensures ∙ c.if-not-version_known.false)
    (sym c.cells_and_steps_within.ensures ∙ c.if-not-cells_and_steps_within.false)
    (sym c.seconds_within.ensures ∙ c.if-not-seconds_within.true)

pub row_start-requires : goal.row_start-requires
row_start-requires c =
    omega (
      arith,
      size_small c.args.version
          (counts_facts c.args.n c.args.steps (sym c.cells_and_steps_within.ensures ∙ c.if-not-cells_and_steps_within.false)),
    )

pub returns-then-row_start-gt-BYTES : goal.returns-then-row_start-gt-BYTES
returns-then-row_start-gt-BYTES c =
    frame_size _ _ _ _ _ (sym c.version_known.ensures ∙ c.if-not-version_known.false)
    (sym c.cells_and_steps_within.ensures ∙ c.if-not-cells_and_steps_within.false)
    (sym c.seconds_within.ensures ∙ c.if-not-seconds_within.false)
    (omega (arith, c.row_start.ensures))

pub returns-then-numbers-steps : goal.returns-then-numbers-steps
returns-then-numbers-steps c =
    frame_numbers _ _ _ _ _ (sym c.version_known.ensures ∙ c.if-not-version_known.false)
    (sym c.cells_and_steps_within.ensures ∙ c.if-not-cells_and_steps_within.false)
    (sym c.seconds_within.ensures ∙ c.if-not-seconds_within.false)
    (omega (arith, c.row_start.ensures)) c.if-numbers-steps.true

pub returns : goal.returns
returns c =
    frame_none _ _ _ _ _ (sym c.version_known.ensures ∙ c.if-not-version_known.false)
    (sym c.cells_and_steps_within.ensures ∙ c.if-not-cells_and_steps_within.false)
    (sym c.seconds_within.ensures ∙ c.if-not-seconds_within.false)
    (omega (arith, c.row_start.ensures)) c.if-numbers-steps.false
