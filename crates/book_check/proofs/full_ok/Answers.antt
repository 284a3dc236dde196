-- `book_check::full_ok` meets its contract. Assumes nothing.
use mathlib.Core.Bool.{true}
use mathlib.Core.Path.{◌≡◌, sym, ◌∙◌}
use borrow.Author.Rules.{rules}
use Rattle.text.specs.Conditions.{all_of}
use Rattle.book.specs.Check.{header_ok, full_ok}
use Rattle.book_check.proofs.Full.{holds-room, records-room, asked, asked_is}
use Rattle.book_check.proofs.full_ok.Goals as goal

pub returns-then-not-header_ok : goal.returns-then-not-header_ok
unfolding full_ok all_of
returns-then-not-header_ok c = search rules

pub holds_ok-requires : goal.holds_ok-requires
holds_ok-requires c =
    let passes : header_ok c.args.c c.args.b.now ≡ true = sym c.header_ok.ensures ∙ c.if-not-header_ok.false in
    holds-room c.requires passes c.get_u32-holds.ensures

pub records_ok-requires : goal.records_ok-requires
records_ok-requires c =
    let passes : header_ok c.args.c c.args.b.now ≡ true = sym c.header_ok.ensures ∙ c.if-not-header_ok.false in
    records-room c.requires passes c.get_u32-records.ensures

pub returns-then-holds_ok : goal.returns-then-holds_ok
unfolding all_of
returns-then-holds_ok c =
    let a = c.args in
    let told : c.records_ok.result ≡ all_of (asked a.events a.c a.b.now c.get_u32-holds.ensures c.get_u32-records.ensures) = search rules in
    told ∙ asked_is a.events a.c a.b.now c.get_u32-holds.ensures c.get_u32-records.ensures

pub returns-else-holds_ok : goal.returns-else-holds_ok
unfolding all_of
returns-else-holds_ok c =
    let a = c.args in
    let told : c.if-event_ok.value ≡ all_of (asked a.events a.c a.b.now c.get_u32-holds.ensures c.get_u32-records.ensures) = search rules in
    told ∙ asked_is a.events a.c a.b.now c.get_u32-holds.ensures c.get_u32-records.ensures
