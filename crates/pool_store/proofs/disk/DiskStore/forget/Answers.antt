use Rattle.std.proofs.Common.{rules, ◌≡◌, ◌∙◌, ap, List, ℕ, filter, not}
use Rattle.std.proofs.lemmas.Fn.{filter_same}
use Rattle.std.specs.Str.{bytes_eq}
use Rattle.pool_outer.specs.Files.{is_named}
use Rattle.pool_store.proofs.Names.{without_name, without_others}
use Rattle.pool_store.proofs.disk.DiskStore.forget.Goals as goal

pub returns-clause-forgotten : goal.returns-clause-forgotten
returns-clause-forgotten g c =
    let kept : c.retain.new.self.items ≡ filter (λ (known : List ℕ). not (bytes_eq known c.args.name.now)) c.args.self.now.known.items = filter_same _ _ _ (λ x b f' k. search rules) _ _ c.retain.ensures.filtered in
    ap (λ (names : List (List ℕ)). is_named names c.args.name.now) kept ∙ without_name c.args.self.now.known.items c.args.name.now

pub returns-clause-others : goal.returns-clause-others
returns-clause-others g c n apart =
    let kept : c.retain.new.self.items ≡ filter (λ (known : List ℕ). not (bytes_eq known c.args.name.now)) c.args.self.now.known.items = filter_same _ _ _ (λ x b f' k. search rules) _ _ c.retain.ensures.filtered in
    ap (λ (names : List (List ℕ)). is_named names n) kept ∙ without_others c.args.name.now n apart c.args.self.now.known.items
