-- Seven fields or eight, the tag P, a name and a symbol that fit, then the numbers. Assumes nothing.
use native.Mathlib.Omega.{arith}
use Rattle.sheet_first.proofs.FirstLine.{first_count, first-room, first_rest, first-other, first-long, behind-name, name-long, symbol-long, names-are, numbers-least, numbers-most, position_is}
use Rattle.sheet_first.proofs.position_line.Goals as goal
use Rattle.sheet_first.proofs.position_line.Goals.{then-s-ne80-via-then-s-ne80, then-s-ne80-via-else-s-ne80+then-s-ne-PIPE}

pub returns-then-fields-lt7 : goal.returns-then-fields-lt7
returns-then-fields-lt7 c = first_count c.requires c.count_parts-fields.ensures c.then-fields-lt7.either

pub bounds-s-0 : goal.bounds-s-0
bounds-s-0 c = omega (arith, first-room c.requires c.count_parts-fields.ensures c.if-fields-lt7.false c.if-fields-gt8.false, c.requires.within)

pub bounds-s-1 : goal.bounds-s-1
bounds-s-1 c = omega (arith, first-room c.requires c.count_parts-fields.ensures c.if-fields-lt7.false c.if-fields-gt8.false, c.requires.within)

pub returns-then-s-ne80 : goal.returns-then-s-ne80
returns-then-s-ne80 c =
    let n = c.count_parts-fields.ensures in
    elim c.then-s-ne80.branch [
      | then-s-ne80-via-then-s-ne80 w ↦ first-other c.requires n c.if-fields-lt7.false c.if-fields-gt8.false w.if-s-ne80.true
      | then-s-ne80-via-else-s-ne80+then-s-ne-PIPE w ↦ first-long c.requires n c.if-fields-lt7.false c.if-fields-gt8.false w.if-s-ne-PIPE.true
    ]

pub find-name-requires : goal.find-name-requires
find-name-requires c = first_rest c.requires c.count_parts-fields.ensures c.if-fields-lt7.false c.if-fields-gt8.false

pub returns-then-name-gt-NAME_LIMIT : goal.returns-then-name-gt-NAME_LIMIT
returns-then-name-gt-NAME_LIMIT c =
    name-long c.requires c.count_parts-fields.ensures c.if-fields-lt7.false c.if-fields-gt8.false c.if-s-ne80.false c.if-s-ne-PIPE.false c.find-name.ensures
    c.if-name-gt-NAME_LIMIT.true

pub find-symbol-requires : goal.find-symbol-requires
find-symbol-requires c = behind-name c.requires c.count_parts-fields.ensures c.if-fields-lt7.false c.if-fields-gt8.false c.if-s-ne80.false c.if-s-ne-PIPE.false c.find-name.ensures

pub returns-then-symbol-name-gt-NAME_LIMIT : goal.returns-then-symbol-name-gt-NAME_LIMIT
returns-then-symbol-name-gt-NAME_LIMIT c =
    symbol-long c.requires c.count_parts-fields.ensures c.if-fields-lt7.false c.if-fields-gt8.false c.if-s-ne80.false c.if-s-ne-PIPE.false c.find-name.ensures
    c.if-name-gt-NAME_LIMIT.false c.find-symbol.ensures c.if-symbol-name-gt-NAME_LIMIT.true

pub settings-requires-clause-names : goal.settings-requires-clause-names
settings-requires-clause-names c =
    names-are c.requires c.count_parts-fields.ensures c.if-fields-lt7.false c.if-fields-gt8.false c.if-s-ne80.false c.if-s-ne-PIPE.false c.find-name.ensures
    c.if-name-gt-NAME_LIMIT.false c.find-symbol.ensures c.if-symbol-name-gt-NAME_LIMIT.false

pub settings-requires-clause-in_bounds_1 : goal.settings-requires-clause-in_bounds_1
settings-requires-clause-in_bounds_1 c =
    numbers-least c.requires c.count_parts-fields.ensures c.if-fields-lt7.false c.if-fields-gt8.false c.if-s-ne80.false c.if-s-ne-PIPE.false c.find-name.ensures
    c.if-name-gt-NAME_LIMIT.false c.find-symbol.ensures c.if-symbol-name-gt-NAME_LIMIT.false

pub settings-requires-clause-in_bounds_2 : goal.settings-requires-clause-in_bounds_2
settings-requires-clause-in_bounds_2 c =
    numbers-most c.requires c.count_parts-fields.ensures c.if-fields-lt7.false c.if-fields-gt8.false c.if-s-ne80.false c.if-s-ne-PIPE.false c.find-name.ensures
    c.if-name-gt-NAME_LIMIT.false c.find-symbol.ensures c.if-symbol-name-gt-NAME_LIMIT.false

pub returns : goal.returns
returns c =
    position_is c.requires c.count_parts-fields.ensures c.if-fields-lt7.false c.if-fields-gt8.false c.if-s-ne80.false c.if-s-ne-PIPE.false c.find-name.ensures
    c.if-name-gt-NAME_LIMIT.false c.find-symbol.ensures c.if-symbol-name-gt-NAME_LIMIT.false c.settings.ensures
