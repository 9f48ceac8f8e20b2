mod RunReverted
