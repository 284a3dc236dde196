-- The wildcard's code, or the text of a value, which is not the wildcard. Assumes nothing.
use lib.Seq.{slice}
use Rattle.table_match.specs.Rows.{values_of}
use Rattle.table_match.proofs.Clauses.{agree_wild, code_low, code_high, agree-text}
use Rattle.table_match.proofs.agrees.Goals as goal

pub returns-then-code-eq-WILD_CODE : goal.returns-then-code-eq-WILD_CODE
returns-then-code-eq-WILD_CODE c =
    let a = c.args in
    agree_wild (values_of a.t.now) (slice a.from a.to a.v.now) c.if-code-eq-WILD_CODE.true

pub overflow_sub-code : goal.overflow_sub-code
overflow_sub-code c = code_low _ c.requires.t_value c.requires.code_in c.if-code-eq-WILD_CODE.false

pub value_text-own-requires : goal.value_text-own-requires
value_text-own-requires c = record { t_value = c.requires.t_value; v_bound = code_high _ c.requires.t_value c.requires.code_in c.if-code-eq-WILD_CODE.false }

pub returns : goal.returns
returns c =
    agree-text _ c.requires.t_value c.requires.code_in c.if-code-eq-WILD_CODE.false _ _ c.value_text-own.ensures c.part_eq.ensures
