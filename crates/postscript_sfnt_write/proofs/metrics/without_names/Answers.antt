use Rattle.std.proofs.Common.{◌≡◌, ap, ◌∙◌, ◌++◌, take, drop}
use Rattle.postscript_sfnt_write.specs.Numbers.{uint32}
use Rattle.postscript_sfnt_write.proofs.Measuring.{rest_is, version_is}
use Rattle.postscript_sfnt_write.proofs.metrics.without_names.Goals as goal

text : (c : goal.In_ok-extend_from_slice) → c.extend_from_slice.new.self.items ≡ uint32 0x00030000 ++ take 28 (drop 4 c.args.post.now)
text c =
    c.in_ok-extend_from_slice.ensures.items
    ∙ ap (λ xs. xs ++ take 28 (drop 4 c.args.post.now))
    (c.in_ok-put_uint32.ensures ∙ ap (λ xs. xs ++ uint32 0x00030000) c.new-new.ensures.items)

pub returns-clause-version : goal.returns-clause-version
returns-clause-version c = version_is c.extend_from_slice.new.self.items (take 28 (drop 4 c.args.post.now)) (text c)

pub returns-clause-kept : goal.returns-clause-kept
returns-clause-kept c = rest_is c.extend_from_slice.new.self.items c.args.post.now (text c)
