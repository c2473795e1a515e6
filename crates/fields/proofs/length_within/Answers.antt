-- Each return is a law of the test of the length, by the tests before it.
use Rattle.std.proofs.Common.{arith, ap, ◌≡◌, ◌∙◌, ℕ}
use Rattle.model.specs.Record.{version_of, header_size}
use Rattle.fields.specs.HeaderLaws.{length_short, length_counted}
use Rattle.fields.proofs.length_within.Goals as goal

pub returns-then-bytes-header_size : goal.returns-then-bytes-header_size
returns-then-bytes-header_size c =
    let s = c.args.bytes.now in
    let header : c.header_size.result ≡ header_size (version_of s) = c.header_size.ensures ∙ ap (λ (v : ℕ). header_size v) c.version.ensures in
    length_short s (omega arith)

pub returns : goal.returns
returns c =
    let s = c.args.bytes.now in
    let header : c.header_size.result ≡ header_size (version_of s) = c.header_size.ensures ∙ ap (λ (v : ℕ). header_size v) c.version.ensures in
    length_counted s (omega arith) c.number.result (omega arith) c.number.ensures.0
