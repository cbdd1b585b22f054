use Rattle.std.proofs.Common.{◌≡◌, List, length, map, slice_get, refl, ap, sym, ◌∙◌, subst, arith}
use Rattle.indexmap.specs.IndexMap.{set_value_at}
use Rattle.matchmaker.specs.Accounts.{AreUsers}
use Rattle.matchmaker.specs.Tables.{named_users, entry_after}
use Rattle.matchmaker.proofs.Users.{later_upto, later-all, later-length, later-next, later-value, standing_at, named-later, users_later}
use Rattle.matchmaker.proofs.table.advance_all.Goals as goal

pub users-init : goal.users-init
unfolding later_upto
users-init c = refl

pub index-standing-requires : goal.index-standing-requires
index-standing-requires c =
    let same : length c.users.users.entries ≡ length c.args.users.now.entries = ap length c.users.invariant ∙ later-length c.args.ticks c.users.place c.args.users.now.entries in
    let all : c.len-place-end.result ≡ length c.args.users.now.entries = c.len-place-end.ensures.len in
    rw (same, sym all) c.users-test.true

pub after-requires : goal.after-requires
after-requires c =
    let old = c.args.users.now.entries in
    let here = sym (ap (λ (l : List _). slice_get (map (λ e. e.1) l) c.users.place) c.users.invariant ∙ later-value c.args.ticks c.users.place old) ∙ c.index-standing.ensures in
    record { within = standing_at old c.users.place c.index-standing.result.now c.requires.0 here }

pub index_mut-requires : goal.index_mut-requires
index_mut-requires c =
    let same : length c.users.users.entries ≡ length c.args.users.now.entries = ap length c.users.invariant ∙ later-length c.args.ticks c.users.place c.args.users.now.entries in
    let all : c.len-place-end.result ≡ length c.args.users.now.entries = c.len-place-end.ensures.len in
    rw (same, sym all) c.users-test.true

pub users-preserved : goal.users-preserved
users-preserved c =
    let old = c.args.users.now.entries in
    let read = ap (λ (l : List _). slice_get (map (λ e. e.1) l) c.users.place) (sym c.users.invariant) ∙ c.index-standing.ensures in
    ap (λ l. set_value_at l c.users.place c.after.result) c.users.invariant
    ∙ ap (λ s. set_value_at (later_upto c.args.ticks c.users.place old) c.users.place s) c.after.ensures.after
    ∙ later-next c.args.ticks c.users.place old c.index-standing.result.now read
    ∙ ap (λ k. later_upto c.args.ticks k old) (omega arith)

all_later : (c : goal.After-users) → c.users.users.entries ≡ map (entry_after c.args.ticks) c.args.users.now.entries
all_later c =
    let old = c.args.users.now.entries in
    let all : c.users.place ≡ length old = omega arith in
    c.users.invariant ∙ ap (λ k. later_upto c.args.ticks k old) all ∙ later-all c.args.ticks old

pub returns-clause-later : goal.returns-clause-later
returns-clause-later c = ap named_users (all_later c) ∙ named-later c.args.ticks c.args.users.now.entries

pub returns-clause-table : goal.returns-clause-table
returns-clause-table c =
    subst AreUsers (sym (returns-clause-later c)) (users_later c.args.ticks (named_users c.args.users.now.entries) c.requires)
