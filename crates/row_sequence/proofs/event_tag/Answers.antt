-- The operates in the order of the tests. Assumes nothing.
use mathlib.Core.Path.{◌∙◌, refl, sym}
use Rattle.text.specs.Literal.{bytes, encoded}
use Rattle.operate.specs.Operate.{latin}
use Rattle.position.specs.Rows.{event_tag}
use Rattle.row_sequence.proofs.event_tag.Goals as goal

pub returns-then-is_tagged : goal.returns-then-is_tagged
unfolding bytes encoded event_tag
returns-then-is_tagged c = rw (sym c.is_tagged.ensures ∙ c.if-is_tagged.true)

pub returns-then-is_tagged-2 : goal.returns-then-is_tagged-2
unfolding bytes encoded event_tag
returns-then-is_tagged-2 c = rw (sym c.is_tagged.ensures ∙ c.if-is_tagged.false, sym c.is_tagged-else-is_tagged.ensures ∙ c.if-is_tagged-2.true)

pub returns-then-is_tagged-3 : goal.returns-then-is_tagged-3
unfolding bytes encoded event_tag
returns-then-is_tagged-3 c =
    rw (sym c.is_tagged.ensures ∙ c.if-is_tagged.false, sym c.is_tagged-else-is_tagged.ensures ∙ c.if-is_tagged-2.false, sym c.is_tagged-else-is_tagged-2.ensures ∙ c.if-is_tagged-3.true)

pub returns-then-is_tagged-4 : goal.returns-then-is_tagged-4
unfolding bytes encoded event_tag
returns-then-is_tagged-4 c =
    rw (
      sym c.is_tagged.ensures ∙ c.if-is_tagged.false,
      sym c.is_tagged-else-is_tagged.ensures ∙ c.if-is_tagged-2.false,
      sym c.is_tagged-else-is_tagged-2.ensures ∙ c.if-is_tagged-3.false,
      sym c.is_tagged-else-is_tagged-3.ensures ∙ c.if-is_tagged-4.true,
    )

pub returns-else-is_tagged-4 : goal.returns-else-is_tagged-4
unfolding bytes encoded event_tag
returns-else-is_tagged-4 c =
    rw (
      sym c.is_tagged.ensures ∙ c.if-is_tagged.false,
      sym c.is_tagged-else-is_tagged.ensures ∙ c.if-is_tagged-2.false,
      sym c.is_tagged-else-is_tagged-2.ensures ∙ c.if-is_tagged-3.false,
      sym c.is_tagged-else-is_tagged-3.ensures ∙ c.if-is_tagged-4.false,
    )

pub is_tagged-requires-clause-latin_value : goal.is_tagged-requires-clause-latin_value
unfolding latin bytes encoded
is_tagged-requires-clause-latin_value c = refl

pub is_tagged-requires-else-is_tagged-clause-latin_value : goal.is_tagged-requires-else-is_tagged-clause-latin_value
unfolding latin bytes encoded
is_tagged-requires-else-is_tagged-clause-latin_value c = refl

pub is_tagged-requires-else-is_tagged-2-clause-latin_value : goal.is_tagged-requires-else-is_tagged-2-clause-latin_value
unfolding latin bytes encoded
is_tagged-requires-else-is_tagged-2-clause-latin_value c = refl

pub is_tagged-requires-else-is_tagged-3-clause-latin_value : goal.is_tagged-requires-else-is_tagged-3-clause-latin_value
unfolding latin bytes encoded
is_tagged-requires-else-is_tagged-3-clause-latin_value c = refl
