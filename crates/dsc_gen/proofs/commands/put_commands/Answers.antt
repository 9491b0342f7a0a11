-- One command behind the other.
use Rattle.std.proofs.Common.{◌∙◌, ◌++◌, ℕ, ap₂}
use Rattle.dsc_base.specs.Fields.{spelled}
use Rattle.dsc_gen.specs.Commands.{header_fields}
use Rattle.dsc_gen.proofs.CommandLaws.{header_put}
use Rattle.dsc_gen.proofs.commands.put_commands.Goals as goal

pub returns : goal.returns
returns c =
    let size : ℕ = c.args.size in
    header_put size c.args.k c.args.linkedit c.args.identifier.now c.args.spots.now c.args.out.now.items c.put_header.new.out.items c.put_segments.new.out.items c.put_dylib.new.out.items
    c.put_dyld_info.new.out.items c.put_uuid.new.out.items c.put_needed.new.out.items c.put_split_info.new.out.items
    (c.in_ok-put_header.ensures ∙ ap₂ (λ (n s : ℕ). c.args.out.now.items ++ spelled (header_fields n s)) c.command_sizes-ncmds.ensures.count c.command_sizes-ncmds.ensures.size)
    c.in_ok-put_segments.ensures c.in_ok-put_dylib.ensures c.in_ok-put_dyld_info.ensures c.in_ok-put_uuid.ensures c.in_ok-put_needed.ensures c.in_ok-put_split_info.ensures
