-- Four fields, one after another; the last one is what is left of the line. Assumes nothing.
use native.Mathlib.Omega.{arith}
use mathlib.Core.Path.{◌∙◌, sym, subst}
use Rattle.std.proofs.Common.{rules, FitsSigned, w64}
use Rattle.text.proofs.Cut.{cut, cut-rest}
use Rattle.run_input.specs.Lines.{BarAs}
use Rattle.run_input.proofs.Fields.{bad_id, bad_instant, bad_offset, bad_price, bar-is}
use Rattle.run_input.proofs.read_bar.Goals as goal

pub returns-in_err-id : goal.returns-in_err-id
returns-in_err-id c =
    let f = cut c.requires.part c.find-a.ensures c.requires.s_len (omega arith) in
    subst (BarAs _) (sym c.from_residual.ensures) (bad_id f (sym c.in_err-id.was ∙ c.read_plain.ensures))

pub find-b-requires : goal.find-b-requires
find-b-requires c = cut-rest (cut c.requires.part c.find-a.ensures c.requires.s_len (omega arith))

pub returns-in_err-instant : goal.returns-in_err-instant
returns-in_err-instant c =
    let f = cut c.requires.part c.find-a.ensures c.requires.s_len (omega arith) in
    let g = cut (cut-rest f) c.find-b.ensures f.left (omega arith) in
    subst (BarAs _) (sym c.from_residual-in_err-instant.ensures)
    (bad_instant f (sym c.in_ok-id.was ∙ c.read_plain.ensures) g (sym c.in_err-instant.was ∙ c.read_plain-2.ensures))

pub find-c-requires : goal.find-c-requires
find-c-requires c =
    let f = cut c.requires.part c.find-a.ensures c.requires.s_len (omega arith) in
    cut-rest (cut (cut-rest f) c.find-b.ensures f.left (omega arith))

pub returns-in_err-offset : goal.returns-in_err-offset
returns-in_err-offset c =
    let f = cut c.requires.part c.find-a.ensures c.requires.s_len (omega arith) in
    let g = cut (cut-rest f) c.find-b.ensures f.left (omega arith) in
    let h = cut (cut-rest g) c.find-c.ensures g.left (omega arith) in
    subst (BarAs _) (sym c.from_residual-in_err-offset.ensures)
    (bad_offset f (sym c.in_ok-id.was ∙ c.read_plain.ensures) g (sym c.in_ok-instant.was ∙ c.read_plain-2.ensures) h
    (sym c.in_err-offset.was ∙ c.read_signed.ensures))

pub read_hex-requires : goal.read_hex-requires
read_hex-requires c =
    let f = cut c.requires.part c.find-a.ensures c.requires.s_len (omega arith) in
    let g = cut (cut-rest f) c.find-b.ensures f.left (omega arith) in
    cut-rest (cut (cut-rest g) c.find-c.ensures g.left (omega arith))

pub returns-in_err-bits : goal.returns-in_err-bits
returns-in_err-bits c =
    let f = cut c.requires.part c.find-a.ensures c.requires.s_len (omega arith) in
    let g = cut (cut-rest f) c.find-b.ensures f.left (omega arith) in
    let h = cut (cut-rest g) c.find-c.ensures g.left (omega arith) in
    subst (BarAs _) (sym c.from_residual-in_err-bits.ensures)
    (bad_price f (sym c.in_ok-id.was ∙ c.read_plain.ensures) g (sym c.in_ok-instant.was ∙ c.read_plain-2.ensures) h
    (sym c.in_ok-offset.was ∙ c.read_signed.ensures) (sym c.in_err-bits.was ∙ c.read_hex.ensures))

pub returns : goal.returns
returns c =
    let f = cut c.requires.part c.find-a.ensures c.requires.s_len (omega arith) in
    let g = cut (cut-rest f) c.find-b.ensures f.left (omega arith) in
    let h = cut (cut-rest g) c.find-c.ensures g.left (omega arith) in
    let id : FitsSigned w64 c.in_ok-id.id = search rules in
    let instant : FitsSigned w64 c.in_ok-instant.instant = search rules in
    let offset : FitsSigned w64 c.in_ok-offset.offset = search rules in
    bar-is f (sym c.in_ok-id.was ∙ c.read_plain.ensures) g (sym c.in_ok-instant.was ∙ c.read_plain-2.ensures) h
    (sym c.in_ok-offset.was ∙ c.read_signed.ensures) (sym c.in_ok-bits.was ∙ c.read_hex.ensures) c.double_of.ensures id instant offset
