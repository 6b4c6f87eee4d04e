-- One block more stands behind the others.
use Rattle.std.proofs.Common.{◌≡◌, ◌<◌, length, get_or, arith}
use Rattle.cedar_schema_grammar.specs.Declared.{entity_types_in, common_types_in, actions_in}
use Rattle.cedar_schema_resolution.proofs.Declaring.{next_block}
use Rattle.cedar_schema_resolution.proofs.declarations.Declarations.add_blocks.Goals as goal

pub loop-block-preserved : goal.loop-block-preserved
loop-block-preserved c =
    let low : c.loop-block.block-index < length c.args.blocks.now = omega arith in
    let here : c.block-item.result ≡ get_or c.args.blocks.now c.loop-block.block-index c.block-item.result = cc in
    record {
      entities = next_block entity_types_in c.args.blocks.now c.loop-block.block-index c.block-item.result low here _ _ _
          c.loop-block.invariant.entities c.in_ok-add_block.ensures.entities;
      types = next_block common_types_in c.args.blocks.now c.loop-block.block-index c.block-item.result low here _ _ _ c.loop-block.invariant.types
          c.in_ok-add_block.ensures.types;
      actions = next_block actions_in c.args.blocks.now c.loop-block.block-index c.block-item.result low here _ _ _ c.loop-block.invariant.actions
          c.in_ok-add_block.ensures.actions;
    }
