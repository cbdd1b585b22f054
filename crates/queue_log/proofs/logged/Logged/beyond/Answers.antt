use Rattle.std.proofs.Common.{◌≡◌, ◌∙◌, ◌++◌, ◌∷◌, [], length, true≢false, refl, ap, sym, subst}
use Rattle.queue_log.proofs.Beyond.{more_beyond, none_beyond, one_beyond, other_list, IsSplit}
use Rattle.queue_log.proofs.logged.Logged.beyond.Goals as goal

pub returns-in-Some-clause-beyond : goal.returns-in-Some-clause-beyond
returns-in-Some-clause-beyond c =
    let roll = c.args.self.now.list in
    let txs = c.split_last-txs.result.0.items in
    let last = c.split_last-txs.result.1 in
    let same : txs ≡ roll = sym c.deref.ensures.value ∙ c.is_same_list.ensures.0 c.if-not-is_same_list.false ∙ c.items-2.ensures ∙ ap (λ v. v.list) c.self.view_is in
    let is : c.args.list ≡ roll ++ c.in-Some.tx ∷ [] = one_beyond c.args.list txs roll _ last c.in-Some.tx c.split_last-txs.ensures c.in-Some.is same in
    more_beyond c.args.list roll c.args.queue c.in-Some.tx c.more.result is c.more.ensures.some

pub returns-in-None-clause-beyond : goal.returns-in-None-clause-beyond
returns-in-None-clause-beyond c =
    let roll = c.args.self.now.list in
    let txs = c.split_last-txs.result.0.items in
    let last = c.split_last-txs.result.1 in
    let same : txs ≡ roll = sym c.deref.ensures.value ∙ c.is_same_list.ensures.0 c.if-not-is_same_list.false ∙ c.items-2.ensures ∙ ap (λ v. v.list) c.self.view_is in
    none_beyond c.args.list txs roll _ c.args.queue last c.split_last-txs.ensures c.in-None.is same

pub returns-then-not-is_same_list-clause-refused : goal.returns-then-not-is_same_list-clause-refused
returns-then-not-is_same_list-clause-refused c =
    let roll = c.args.self.now.list in
    let txs = c.split_last-txs.result.0.items in
    let last = c.split_last-txs.result.1 in
    let view = ap (λ v. v.list) c.self.view_is in
    let split : IsSplit c.args.list txs (length roll) last = subst (λ l. IsSplit c.args.list txs (length l) last) (c.items.ensures ∙ view) c.split_last-txs.ensures in
    (refl, other_list c.args.list txs roll last split (λ same. true≢false (sym (c.is_same_list.ensures.1 (c.deref.ensures.value ∙ same ∙ sym (c.items-2.ensures ∙ view))) ∙ c.if-not-is_same_list.true)))
