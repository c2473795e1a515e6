-- `filling::with_last`: the part of the list that is lent is its last row. Assumes nothing.
use Rattle.std.proofs.Common.{◌∙◌, List, ℕ, ◌+◌, ◌-◌, ◌*◌, refl, ap}
use Rattle.std.proofs.Math.Path.{subst⁻¹}
use Rattle.model.specs.Numbers.{fill_of}
use Rattle.numbers.specs.TablesLaws.{part_row}
use Rattle.filling.specs.LastStep.{entered_in, EntriesRequire}
use Rattle.filling.proofs.with_last.Goals as goal

pub put_entries-requires : goal.put_entries-requires
put_entries-requires c =
    let a = c.args in
    subst⁻¹ (EntriesRequire a.r.n a.r.share a.longest.ended.state.cumulative)
    (part_row a.out.now (a.r.n + 1) (a.steps - 1) ((a.steps - 1) * (a.r.n + 1)) refl) c.requires.ready

pub returns : goal.returns
returns c =
    let a = c.args in (
      refl,
      (
        c.put_releases.ensures,
        c.put_entries.ensures
            ∙ ap (λ (y : List ℕ). fill_of (entered_in a.r.share a.longest.ended.state.cumulative y) a.r.n a.from.entries)
            (part_row a.out.now (a.r.n + 1) (a.steps - 1) ((a.steps - 1) * (a.r.n + 1)) refl),
      ),
    )
